-- The law of close: after a record that closes numbers, no kqueue of their process has a READ, WRITE or
-- VNODE knote of one of them.
use Rattle.std.proofs.Common.{◌≡◌, ℕ, Bool, true, false, cond, not, ◌&&◌, List, [], ◌∷◌, map, filter, Option, None, refl, sym, subst}
use Rattle.std.proofs.lemmas.List.Elements.{All-nil, All-cons}
use Rattle.std.specs.Prelude.{All}
use Rattle.kq_model.specs.Close.{Pair, is_closed, closed, IsNotClosed, has_pair}
use Rattle.kq_model.specs.Following.{Fork, forks_in}
use Rattle.kq_model.specs.Hearing.{Hearing}
use Rattle.kq_model.specs.Knote.{Knote, watches_number}
use Rattle.kq_model.specs.Kqueue.{Kqueue}
use Rattle.kq_model.specs.Moment.{Moment, happened, after_call, kqueue_step}
use Rattle.kq_model.specs.Subjects.{HasSubject, HaveSubjects, FollowsSubject}
use Rattle.kq_model.specs.System.{Live, stepped, lived}
use Rattle.kq_model.specs.World.{Call}
use Rattle.kq_model.proofs.SubjectsCall.{notified-subjects, followed-subjects, clocked-subjects}

module _ {S : Type 0} (h : Hearing S) (owner : ℕ) (pairs : List Pair) where
  abbrev still_open : List (Knote h) → List (Knote h)
  still_open ks = filter (λ (k : Knote h). not (is_closed owner pairs k.key)) ks

  open_or_gone : (k : Knote h) (rest : List (Knote h)) (b : Bool) → is_closed owner pairs k.key ≡ b → HaveSubjects (IsNotClosed owner pairs) rest
      → HaveSubjects (IsNotClosed owner pairs) (cond (not b) (k ∷ rest) rest)
  open_or_gone k rest true e others = others
  open_or_gone k rest false e others = All-cons (HasSubject (IsNotClosed owner pairs)) k rest e others

  not_closed : (ks : List (Knote h)) → HaveSubjects (IsNotClosed owner pairs) (still_open ks)
  not_closed [] = All-nil (HasSubject (IsNotClosed owner pairs))
  not_closed (k ∷ ks) = open_or_gone k (still_open ks) (is_closed owner pairs k.key) refl (not_closed ks)

  pub closed-gone : (kq : Kqueue h) → HaveSubjects (IsNotClosed owner pairs) (closed owner pairs kq).knotes
  unfolding closed
  closed-gone kq = not_closed kq.knotes

-- where nothing is closed
and-false : (b : Bool) → (b && false) ≡ false
and-false true = refl
and-false false = refl

pub none-closed : {S : Type 0} (h : Hearing S) (owner : ℕ) (ks : List (Knote h)) → HaveSubjects (IsNotClosed owner []) ks
none-closed h owner [] = All-nil (HasSubject {h = h} (IsNotClosed owner []))
none-closed h owner (k ∷ ks) =
    All-cons (HasSubject {h = h} (IsNotClosed owner [])) k ks (and-false (watches_number k.key.filter)) (none-closed h owner ks)

module _ {S : Type 0} (h : Hearing S) (m : Moment) where
  -- the hints and the clock of the record bring none back
  pub happened-closed : (owner : ℕ) (kq : Kqueue h) → HaveSubjects (IsNotClosed owner m.closed) (happened owner m kq).knotes
  unfolding happened watches_number
  happened-closed owner kq =
      clocked-subjects h (IsNotClosed owner m.closed) m.clock _
      (followed-subjects h (IsNotClosed owner m.closed) m.version m.hints _ (follow-closed (forks_in m.version m.hints))
      (notified-subjects h (IsNotClosed owner m.closed) m.views m.hints _ (closed-gone h owner m.closed kq)))
    where
      -- what is closed is watched by no process
      follow-closed : (fs : List Fork) → All (FollowsSubject (IsNotClosed owner m.closed)) fs
      follow-closed [] = All-nil (FollowsSubject (IsNotClosed owner m.closed))
      follow-closed (f ∷ fs) = All-cons (FollowsSubject (IsNotClosed owner m.closed)) f fs (λ _. refl) (follow-closed fs)

  uncalled : (kqueue owner : ℕ) (kq : Kqueue h) (c : Option Call) → c ≡ None → after_call kqueue owner m c kq ≡ happened owner m kq
  unfolding after_call
  uncalled kqueue owner kq c none = subst (λ call. after_call kqueue owner m call kq ≡ happened owner m kq) (sym none) refl

  abbrev HasNoneClosed : Live h → Type 0
  HasNoneClosed l = HaveSubjects (IsNotClosed l.owner m.closed) l.kq.knotes

  stepped-closed : m.call ≡ None → (l : Live h) → HasNoneClosed (stepped m l)
  unfolding stepped kqueue_step
  stepped-closed none l =
      subst (λ (kq : Kqueue h). HaveSubjects (IsNotClosed l.owner m.closed) kq.knotes)
      (sym (uncalled l.place l.owner l.kq m.call none)) (happened-closed l.owner l.kq)

  all_stepped : m.call ≡ None → (ls : List (Live h)) → All HasNoneClosed (map (stepped m) ls)
  all_stepped none [] = All-nil HasNoneClosed
  all_stepped none (l ∷ ls) = All-cons HasNoneClosed (stepped m l) (map (stepped m) ls) (stepped-closed none l) (all_stepped none ls)

  -- a record that closes is no call
  pub lived-closed : m.call ≡ None → (ls : List (Live h)) → All HasNoneClosed (lived m ls)
  unfolding lived
  lived-closed none ls = all_stepped none (filter (λ (l : Live h). not (has_pair l.owner l.number m.closed)) ls)

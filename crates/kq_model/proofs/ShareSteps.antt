-- A share takes the step of a system as it is, but for a kqueue that is made for others; and no call of others is
-- answered in it.
use Rattle.std.proofs.Common.{◌≡◌, ◌⊎◌, inl, inr, ℕ, Bool, true, false, cond, eqb, ltb, length, List, [], ◌∷◌, ◌++◌, filter, Option, Some, None, refl, sym, ap, ap₂, ◌∙◌}
use Rattle.std.proofs.lemmas.Bool.{cond_both, eqb-true, false≢true}
use Rattle.std.proofs.lemmas.List.Elements.{filter-append}
use Rattle.kq_model.specs.declared.change.Change.{Change}
use Rattle.kq_model.specs.declared.errno.Errno.{Errno}
use Rattle.kq_model.specs.declared.event.Event.{Event}
use Rattle.kq_model.specs.declared.kevent.Kevent.{Kevent}
use Rattle.kq_model.specs.declared.reply.Reply.{Reply}
use Rattle.kq_model.specs.declared.reply.Reply.TheVariants as reply
use Rattle.kq_model.specs.Call as kevent
use Rattle.kq_model.specs.Call.{Processed, ended, is_answered, entry_of, after, process, returned, by_entries, by_answer, concluded}
use Rattle.kq_model.specs.Caller.{Caller}
use Rattle.kq_model.specs.Close.{Pair}
use Rattle.kq_model.specs.Hearing.{Hearing}
use Rattle.kq_model.specs.Kqueue.{Kqueue, empty_kqueue}
use Rattle.kq_model.specs.Moment.{Moment, moment_of, called_at, caller_at, happened}
use Rattle.kq_model.specs.Objects.{Keeping}
use Rattle.kq_model.specs.Plans.{plan}
use Rattle.kq_model.specs.Registration.{Registered, register}
use Rattle.kq_model.specs.Shares.{share, own_step, share_step, if_own, BearsOwn}
use Rattle.kq_model.specs.System.{Live, System, Stepped, lived, born, answer, reply_to, kqueue_of, step_by, step}
use Rattle.kq_model.specs.Views.{Views}
use Rattle.kq_model.specs.World.{Call, Planned, Impossible, Possible, seen_world}
use Rattle.kq_model.proofs.KnoteLaws.{by_test}
use Rattle.kq_model.proofs.Shares.{own-lived}

-- ---- a call is never answered as an impossible record is

abbrev IsPossible : Reply → Type 0
IsPossible (reply.Impossible why) = ⊥
IsPossible _ = Unit {0}

abbrev MayAnswer : Option Reply → Type 0
MayAnswer None = Unit {0}
MayAnswer (Some r) = IsPossible r

ended-possible : (e : Option Errno) (placed : List Kevent) → IsPossible (ended e placed)
unfolding ended
ended-possible None placed = tt
ended-possible (Some e) placed = tt

module _ {S : Type 0} {h : Hearing S} where
  after-possible : (rest : List Kevent → Kqueue h → Processed h) → ((placed : List Kevent) (kq : Kqueue h) → MayAnswer (rest placed kq).answer)
      → (room : ℕ) (c : Change) (placed : List Kevent) (r : Registered h) → MayAnswer (after rest room c placed r).answer
  unfolding after
  after-possible rest may room c placed r =
      cond_both (is_answered c r.error) _ _ Fine
      (λ _. cond_both (ltb (length placed) room) _ _ Fine (λ _. may (placed ++ entry_of c r.error ∷ []) r.kq) (λ _. ended-possible r.error placed))
      (λ _. may placed r.kq)
    where
      Fine : Processed h → Type 0
      Fine p = MayAnswer p.answer

  process-possible : (caller : Caller) (room : ℕ) (changes : List Change) (placed : List Kevent) (kq : Kqueue h)
      → MayAnswer (process caller room changes placed kq).answer
  unfolding process
  process-possible caller room [] placed kq = tt
  process-possible caller room (c ∷ changes) placed kq =
      after-possible (process caller room changes) (λ more q. process-possible caller room changes more q) room c placed (register caller c kq)

  entries-possible : (views : Views) (room : ℕ) (placed : List Kevent) (kq : Kqueue h) → IsPossible (by_entries views room placed kq).reply
  unfolding by_entries returned
  entries-possible views room [] kq = tt
  entries-possible views room (entry ∷ entries) kq = tt

  by_answer-possible : (views : Views) (room : ℕ) (p : Processed h) (a : Option Reply) → MayAnswer a → IsPossible (by_answer views room p a).reply
  unfolding by_answer
  by_answer-possible views room p (Some r) may = may
  by_answer-possible views room p None may = entries-possible views room p.placed p.kq

  call-possible : (caller : Caller) (room : ℕ) (changes : List Change) (kq : Kqueue h) → IsPossible (kevent.call caller room changes kq).reply
  unfolding kevent.call concluded
  call-possible caller room changes kq =
      let p = process caller room changes [] kq in
      by_answer-possible caller.views room p p.answer (process-possible caller room changes [] kq)

  answer-possible : (m : Moment) (c : Call) (live : List (Live h)) → IsPossible (answer m c live)
  unfolding answer called_at
  answer-possible m c [] = tt
  answer-possible m c (l ∷ ls) =
      cond_both (eqb c.kqueue l.place) (called_at l.owner m c l.kq).reply (answer m c ls) IsPossible
      (λ _. call-possible (caller_at l.owner m) c.room c.changes (happened l.owner m l.kq)) (λ _. answer-possible m c ls)

  reply-possible : (m : Moment) (c : Option Call) (live : List (Live h)) → IsPossible (reply_to m c live)
  unfolding reply_to
  reply-possible m None live = tt
  reply-possible m (Some c) live = answer-possible m c live

if_own-possible : (mine : Bool) (r : Reply) → IsPossible r → if_own mine r ≡ r
unfolding if_own
if_own-possible mine reply.Done is = refl
if_own-possible mine (reply.Events events) is = refl
if_own-possible mine (reply.Failed e) is = refl
if_own-possible mine (reply.Impossible why) is = absurd is

-- ---- the kqueues of a share

module _ {S : Type 0} {h : Hearing S} (own : Option ℕ → Bool) where
  abbrev is_own : Live h → Bool
  is_own l = own (Some l.place)

  -- nobody is there whom the call is for
  foreign-answer : (m : Moment) (c : Call) → own (Some c.kqueue) ≡ false → (live : List (Live h)) → answer m c (filter is_own live) ≡ reply.Done
  unfolding answer
  foreign-answer m c other [] = refl
  foreign-answer m c other (l ∷ ls) =
      by_test (λ b. is_own l ≡ b → answer m c (cond b (l ∷ filter is_own ls) (filter is_own ls)) ≡ reply.Done) (is_own l)
      (λ _ mine.
      by_test (λ b. eqb c.kqueue l.place ≡ b → cond b (called_at l.owner m c l.kq).reply (answer m c (filter is_own ls)) ≡ reply.Done)
      (eqb c.kqueue l.place)
      (λ _ same. absurd (false≢true (sym other ∙ ap (λ place. own (Some place)) (eqb-true c.kqueue l.place same) ∙ mine)))
      (λ _ _. foreign-answer m c other ls) refl)
      (λ _ _. foreign-answer m c other ls) refl

  kept-reply : (m : Moment) (c : Option Call) (live : List (Live h)) → filter is_own live ≡ live
      → cond (own (kqueue_of c)) (reply_to m c live) reply.Done ≡ if_own (own None) (reply_to m c live)
  unfolding reply_to kqueue_of
  kept-reply m None live kept = by_test (λ b. cond b reply.Done reply.Done ≡ if_own b reply.Done) (own None) (λ _. sym (if_own-possible true reply.Done tt)) (λ _. sym (if_own-possible false reply.Done tt))
  kept-reply m (Some c) live kept =
      by_test (λ b. own (Some c.kqueue) ≡ b → cond b (answer m c live) reply.Done ≡ answer m c live) (own (Some c.kqueue))
      (λ _ _. refl) (λ _ other. sym (ap (answer m c) (sym kept) ∙ foreign-answer m c other live)) refl
      ∙ sym (if_own-possible (own None) (answer m c live) (answer-possible m c live))

  kept-born : (place : ℕ) (p : Option Pair) → (p ≡ None) ⊎ (own (Some place) ≡ true) → filter is_own (born place p) ≡ born {h = h} place p
  unfolding born
  kept-born place None either = refl
  kept-born place (Some p) (inl none) = absurd (cc)
  kept-born place (Some p) (inr mine) =
      let l : Live h = record { place = place; owner = p.pid; number = p.number; kq = empty_kqueue {h = h} } in
      ap (λ b. cond b (l ∷ []) []) mine

-- ---- the step

module _ {S A B C D : Type 0} {h : Hearing S} {k : Keeping A B C D} (own : Option ℕ → Bool) where
  own-only : (s : System h k) → share own s ≡ s → filter (is_own own) s.live ≡ s.live
  unfolding share
  own-only s kept = ap (λ (t : System h k). t.live) kept

  kept-plan : (place : ℕ) (q : Planned) (s : System h k) → share own s ≡ s → BearsOwn own place q
      → own_step own (step_by place q s) ≡ record (step_by place q s) { reply = if_own (own None) (step_by place q s).reply }
  unfolding step_by own_step share if_own kqueue_of
  kept-plan place (Impossible why) s kept bears =
      ap (λ (live : List (Live h)). record {
        system = record s { live = live };
        reply = cond (own None) (reply.Impossible why) reply.Done;
        kqueue = None;
      }) (own-only s kept)
  kept-plan place (Possible p) s kept bears =
      let m = moment_of s.version place p s.world in
      ap₂ (λ (live : List (Live h)) (r : Reply). record {
        system = record (step_by place (Possible p) s).system { live = live };
        reply = r;
        kqueue = kqueue_of p.call;
      })
      (filter-append (is_own own) (lived m s.live) (born place p.born)
      ∙ ap₂ (λ xs ys. xs ++ ys) (own-lived own m s.live ∙ ap (lived m) (own-only s kept)) (kept-born own place p.born bears))
      (kept-reply own m p.call s.live (own-only s kept))

  -- what a share does where it makes no kqueue for others
  pub kept-step : (place : ℕ) (e : Event) (s : System h k) → share own s ≡ s → BearsOwn own place (plan place e (seen_world s.world))
      → share_step own place e s ≡ record (step place e s) { reply = if_own (own None) (step place e s).reply }
  unfolding share_step step
  kept-step place e s kept bears = kept-plan place (plan place e (seen_world s.world)) s kept bears

  pub kept-system : (place : ℕ) (e : Event) (s : System h k) → share own s ≡ s → BearsOwn own place (plan place e (seen_world s.world))
      → share own (step place e s).system ≡ (step place e s).system
  unfolding share_step own_step
  kept-system place e s kept bears = ap (λ (t : Stepped h k). t.system) (kept-step place e s kept bears)

  -- whatever the record is
  plan-reply : (place : ℕ) (q : Planned) (s : System h k) → share own s ≡ s
      → cond (own (step_by place q s).kqueue) (step_by place q s).reply reply.Done ≡ if_own (own None) (step_by place q s).reply
  unfolding step_by if_own
  plan-reply place (Impossible why) s kept = refl
  plan-reply place (Possible p) s kept = kept-reply own (moment_of s.version place p s.world) p.call s.live (own-only s kept)

  -- what it replies, and what it is afterwards
  pub shared-step : (place : ℕ) (e : Event) (s : System h k) → share own s ≡ s
      → share_step own place e s ≡ record (step place e s) { system = share own (step place e s).system; reply = if_own (own None) (step place e s).reply }
  unfolding share_step step own_step
  shared-step place e s kept =
      ap (λ (r : Reply). record (step place e s) { system = share own (step place e s).system; reply = r })
      (plan-reply place (plan place e (seen_world s.world)) s kept)

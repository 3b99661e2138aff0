-- Each step keeps it so: READ, WRITE and VNODE knotes watch what their numbers name now. A record leaves what
-- open numbers name, but for those that it closes, and of these the knotes are gone; a call brings no knote but
-- of what its number names.
use Rattle.std.proofs.Common.{◌≡◌, ℕ, ◌^◌, ◌==◌, true, cond, not, ◌&&◌, ltb, List, [], ◌∷◌, map, Option, Some, None, refl, sym, ap, ◌∙◌}
use Rattle.std.proofs.lemmas.Bool.{cond_both, true≢false}
use Rattle.std.proofs.lemmas.List.Elements.{All-nil, All-cons, All-head, All-tail, All-append, All-filter}
use Rattle.std.proofs.lemmas.Option.{none-some}
use Rattle.std.specs.Option.{is_some}
use Rattle.std.specs.Prelude.{All, option_and_then}
use Rattle.kq_model.specs.declared.change.Change.{Change}
use Rattle.kq_model.specs.declared.event.Event.{Event}
use Rattle.kq_model.specs.declared.filter.Filter.{Filter}
use Rattle.kq_model.specs.declared.filter.Filter.TheVariants.{Read, Write, Vnode}
use Rattle.kq_model.specs.declared.object.Named.{Named}
use Rattle.kq_model.specs.declared.object.Target.{Target}
use Rattle.kq_model.specs.Call as kevent
use Rattle.kq_model.specs.Caller.{Caller}
use Rattle.kq_model.specs.Close.{Pair, closed, has_pair, IsNotClosed}
use Rattle.kq_model.specs.Descriptors.{IsRising}
use Rattle.kq_model.specs.Following.{Fork, forks_in, followed}
use Rattle.kq_model.specs.Hearing.{Hearing}
use Rattle.kq_model.specs.Knote.{Knote, watches_number}
use Rattle.kq_model.specs.Kqueue.{Kqueue}
use Rattle.kq_model.specs.Moment.{Moment, moment_of, caller_at, happened, called_at, after_call, kqueue_step}
use Rattle.kq_model.specs.NamedTargets.{IsNamed}
use Rattle.kq_model.specs.Objects.{Keeping}
use Rattle.kq_model.specs.Plans.{plan}
use Rattle.kq_model.specs.Subjects.{HasSubject, HaveSubjects, MakesSubject, MakeSubjects, FollowsSubject}
use Rattle.kq_model.specs.System.{Live, System, empty_system, stepped, lived, born, step_by, step}
use Rattle.kq_model.specs.Targets.{Posted, number_in, named_in, object_of, file_of, target_of}
use Rattle.kq_model.specs.Views.{Views}
use Rattle.kq_model.specs.WatchedNumbers.{LeavesOpen, WatchTheirNumbers, AllWatchTheirNumbers}
use Rattle.kq_model.specs.World.{Call, Plan, Planned, Impossible, Possible, World, named_by, seen_world, views_of, carried_out, empty_world}
use Rattle.kq_model.proofs.CloseLaw.{closed-gone, none-closed}
use Rattle.kq_model.proofs.KnoteLaws.{by_test}
use Rattle.kq_model.proofs.NamedTargets.{makes-named}
use Rattle.kq_model.proofs.OpenNumbers.{stays-open}
use Rattle.kq_model.proofs.SubjectsCall.{call-subjects, closed-subjects, notified-subjects, followed-subjects, clocked-subjects}

-- ---- one knote

-- what an ident names stays, where the number does
still-in : (before after : Views) (owner ident : ℕ) (n : Named)
    → (before.descriptor owner ident ≡ Some n → after.descriptor owner ident ≡ Some n)
    → named_in before owner ident ≡ Some n → named_in after owner ident ≡ Some n
unfolding named_in number_in
still-in before after owner ident n stays found =
    by_test (λ b. option_and_then (before.descriptor owner) (cond b (Some ident) None) ≡ Some n
    → option_and_then (after.descriptor owner) (cond b (Some ident) None) ≡ Some n) (ltb ident (2 ^ 32))
    (λ _ here. stays here) (λ _ nothing. absurd (none-some n nothing)) found

-- so what is watched by it is the same
same-watched : (watched : Option Named → Option Target) → watched None ≡ None
    → (before after : Option Named) (target : Option Target)
    → ((n : Named) → before ≡ Some n → after ≡ Some n) → is_some target ≡ true → target ≡ watched before
    → target ≡ watched after
same-watched watched none None after target stays there is = absurd
    (true≢false (sym there ∙ ap (λ t. is_some t) (is ∙ none)))
same-watched watched none (Some n) after target stays there is = is ∙ ap watched (sym (stays n refl))

same-target : (before after : Views) (owner : ℕ) (f : Filter) (ident : ℕ) (target : Option Target)
    → watches_number f ≡ true
    → ((n : Named) → named_in before owner ident ≡ Some n → named_in after owner ident ≡ Some n)
    → is_some target ≡ true → target ≡ target_of before owner f ident → target ≡ target_of after owner f ident
unfolding watches_number target_of object_of file_of
same-target before after owner Read ident target watches stays there is =
    same-watched object_of refl (named_in before owner ident) (named_in after owner ident) target stays there is
same-target before after owner Write ident target watches stays there is =
    same-watched object_of refl (named_in before owner ident) (named_in after owner ident) target stays there is
same-target before after owner Vnode ident target watches stays there is =
    same-watched file_of refl (named_in before owner ident) (named_in after owner ident) target stays there is
same-target before after owner _ ident target watches stays there is = absurd (true≢false (sym watches))

still-named : (before after : Views) (owner : ℕ) (pairs : List Pair) → LeavesOpen before after owner pairs
    → (f : Filter) (ident : ℕ) (target : Option Target)
    → IsNotClosed owner pairs f ident target → IsNamed before owner f ident target → IsNamed after owner f ident target
still-named before after owner pairs leaves f ident target stays named watches =
    let is = named watches in
    let not_closed = sym (ap (λ b. b && has_pair owner ident pairs) watches) ∙ stays in (
      is.0,
      same-target before after owner f ident target watches
          (λ n found. still-in before after owner ident n (leaves ident n not_closed) found) is.0 is.1,
    )

module _ {S : Type 0} (h : Hearing S) where
  -- ---- a close

  all-named : (before after : Views) (owner : ℕ) (pairs : List Pair) → LeavesOpen before after owner pairs
      → (ks : List (Knote h))
      → HaveSubjects (IsNotClosed owner pairs) ks → HaveSubjects (IsNamed before owner) ks
      → HaveSubjects (IsNamed after owner) ks
  all-named before after owner pairs leaves [] stay named = All-nil (HasSubject {h = h} (IsNamed after owner))
  all-named before after owner pairs leaves (k ∷ ks) stay named =
      All-cons (HasSubject {h = h} (IsNamed after owner)) k ks
      (still-named before after owner pairs leaves k.key.filter k.key.ident k.target
      (All-head (HasSubject {h = h} (IsNotClosed owner pairs)) k ks stay)
      (All-head (HasSubject {h = h} (IsNamed before owner)) k ks named))
      (all-named before after owner pairs leaves ks
      (All-tail (HasSubject {h = h} (IsNotClosed owner pairs)) k ks stay)
      (All-tail (HasSubject {h = h} (IsNamed before owner)) k ks named))

  pub closed-watched : (before after : Views) (owner : ℕ) (pairs : List Pair) (kq : Kqueue h)
      → LeavesOpen before after owner pairs
      → WatchTheirNumbers before owner kq → WatchTheirNumbers after owner (closed owner pairs kq)
  closed-watched before after owner pairs kq leaves watch =
      all-named before after owner pairs leaves (closed owner pairs kq).knotes (closed-gone h owner pairs kq)
      (closed-subjects h (IsNamed before owner) owner pairs kq watch)

  -- a record that closes none of them
  pub left-watched : (before after : Views) (owner : ℕ) (kq : Kqueue h) → LeavesOpen before after owner []
      → WatchTheirNumbers before owner kq
      → WatchTheirNumbers after owner kq
  left-watched before after owner kq leaves watch = all-named before after owner [] leaves kq.knotes
      (none-closed h owner kq.knotes) watch

  -- ---- a call

  all_make : (caller : Caller) (changes : List Change)
      → MakeSubjects h (IsNamed caller.views caller.owner) caller changes
  all_make caller [] = All-nil (λ c. (kq : Kqueue h) → MakesSubject (IsNamed caller.views caller.owner) caller c kq)
  all_make caller (c ∷ changes) =
      All-cons (λ x. (kq : Kqueue h) → MakesSubject (IsNamed caller.views caller.owner) caller x kq) c changes
      (makes-named h caller c) (all_make caller changes)

  pub call-watched : (caller : Caller) (room : ℕ) (changes : List Change) (kq : Kqueue h)
      → WatchTheirNumbers caller.views caller.owner kq
      → WatchTheirNumbers caller.views caller.owner (kevent.call caller room changes kq).kq
  call-watched caller room changes kq watch =
      call-subjects h (IsNamed caller.views caller.owner) caller room changes kq (all_make caller changes) watch

  -- ---- children: a process is no number

  follow-named : (views : Views) (owner : ℕ) (fs : List Fork) → All (FollowsSubject (IsNamed views owner)) fs
  unfolding watches_number
  follow-named views owner [] = All-nil (FollowsSubject (IsNamed views owner))
  follow-named views owner (f ∷ fs) =
      All-cons (FollowsSubject (IsNamed views owner)) f fs (λ _ watches. absurd (true≢false (sym watches)))
      (follow-named views owner fs)

  pub followed-watched : (views : Views) (owner version : ℕ) (posted : List Posted) (kq : Kqueue h)
      → WatchTheirNumbers views owner kq → WatchTheirNumbers views owner (followed version posted kq)
  followed-watched views owner version posted kq watch =
      followed-subjects h (IsNamed views owner) version posted kq (follow-named views owner (forks_in version posted)) watch

  -- ---- the step of a kqueue

  happened-watched : (before : Views) (owner : ℕ) (m : Moment) (kq : Kqueue h)
      → LeavesOpen before m.views owner m.closed
      → WatchTheirNumbers before owner kq → WatchTheirNumbers m.views owner (happened owner m kq)
  unfolding happened
  happened-watched before owner m kq leaves watch =
      clocked-subjects h (IsNamed m.views owner) m.clock _
      (followed-watched m.views owner m.version m.hints _
      (notified-subjects h (IsNamed m.views owner) m.views m.hints _
      (closed-watched before m.views owner m.closed kq leaves watch)))

  after_call-watched : (before : Views) (place owner : ℕ) (m : Moment) (c : Option Call) (kq : Kqueue h)
      → LeavesOpen before m.views owner m.closed
      → WatchTheirNumbers before owner kq → WatchTheirNumbers m.views owner (after_call place owner m c kq)
  unfolding after_call called_at
  after_call-watched before place owner m None kq leaves watch = happened-watched before owner m kq leaves watch
  after_call-watched before place owner m (Some c) kq leaves watch =
      let happens = happened-watched before owner m kq leaves watch in
      cond_both (c.kqueue == place) _ _ (λ (q : Kqueue h). WatchTheirNumbers m.views owner q)
      (λ _. call-watched (caller_at owner m) c.room c.changes (happened owner m kq) happens) (λ _. happens)

  -- ---- all live kqueues

  abbrev Watches : Views → Live h → Type 0
  Watches views l = WatchTheirNumbers views l.owner l.kq

  all-stepped : (before : Views) (m : Moment) → ((owner : ℕ) → LeavesOpen before m.views owner m.closed)
      → (ls : List (Live h))
      → All (Watches before) ls → All (Watches m.views) (map (stepped m) ls)
  unfolding stepped kqueue_step
  all-stepped before m leaves [] all = All-nil (Watches m.views)
  all-stepped before m leaves (l ∷ ls) all =
      All-cons (Watches m.views) (stepped m l) (map (stepped m) ls)
      (after_call-watched before l.place l.owner m m.call l.kq (leaves l.owner) (All-head (Watches before) l ls all))
      (all-stepped before m leaves ls (All-tail (Watches before) l ls all))

  lived-watched : (before : Views) (m : Moment) → ((owner : ℕ) → LeavesOpen before m.views owner m.closed)
      → (ls : List (Live h))
      → All (Watches before) ls → All (Watches m.views) (lived m ls)
  unfolding lived
  lived-watched before m leaves ls all =
      all-stepped before m leaves _
      (All-filter (λ (l : Live h). not (has_pair l.owner l.number m.closed)) (Watches before) ls all)

  -- one that is made has no knotes
  born-watched : (views : Views) (place : ℕ) (p : Option Pair) → All (Watches views) (born place p)
  unfolding born
  born-watched views place None = All-nil (Watches views)
  born-watched views place (Some p) =
      All-cons (Watches views) _ [] (All-nil (HasSubject {h = h} (IsNamed views p.pid))) (All-nil (Watches views))

-- ---- a step of the system

leaves-open : {A B C D : Type 0} {k : Keeping A B C D} (place : ℕ) (p : Plan) (w : World k)
    → IsRising (carried_out place p w).table
    → (owner : ℕ) → LeavesOpen (views_of (seen_world w)) (views_of (seen_world (carried_out place p w))) owner p.closed
unfolding views_of named_by
leaves-open place p w rising owner number n stays found = stays-open owner number place p w n rising stays found

module _ {S A B C D : Type 0} {h : Hearing S} {k : Keeping A B C D} where
  step_by-watched : (place : ℕ) (planned : Planned) (s : System h k)
      → IsRising (step_by place planned s).system.world.table
      → AllWatchTheirNumbers s → AllWatchTheirNumbers (step_by place planned s).system
  unfolding step_by moment_of
  step_by-watched place (Impossible why) s rising all = all
  step_by-watched place (Possible p) s rising all =
      let m = moment_of s.version place p s.world in
      let before = views_of (seen_world s.world) in
      All-append (Watches h m.views) (lived m s.live) (born place p.born)
      (lived-watched h before m (leaves-open place p s.world rising) s.live all) (born-watched h m.views place p.born)

  -- where the table of the world after it is in rising order, as in each world that records lead to
  pub step-watched : (place : ℕ) (e : Event) (s : System h k) → IsRising (step place e s).system.world.table
      → AllWatchTheirNumbers s → AllWatchTheirNumbers (step place e s).system
  unfolding step
  step-watched place e s rising all = step_by-watched place (plan place e (seen_world s.world)) s rising all

pub empty-watched : {S A B C D : Type 0} (h : Hearing S) (k : Keeping A B C D) (version : ℕ)
    → AllWatchTheirNumbers (empty_system {h = h} {k = k} version)
empty-watched h k version = All-nil
    (λ (l : Live h). WatchTheirNumbers (views_of (seen_world (empty_world k))) l.owner l.kq)

-- What is said of an answer: that it is allowed, or the first thing that is wrong with it.
use Rattle.std.specs.Prelude.{◌≡◌, ◌≤◌, ◌<◌, ℕ, true, false, List, map, take, length, Some, slice_get}
use Rattle.kq_model.specs.declared.kevent.Kevent.{Kevent}
use Rattle.kq_model.specs.declared.key.Key.{Key}
use Rattle.kq_model.specs.CallLaws.{Each, key_of_event}
use Rattle.kq_model.specs.Hearing.{Hearing}
use Rattle.kq_model.specs.Knote.{Knote, has_key}
use Rattle.kq_model.specs.Kqueue.{Kqueue, AreOnce}
use Rattle.kq_model.specs.Views.{Views}
use Rattle.kq_judge.specs.declared.judging.Fault.{Fault}
use Rattle.kq_judge.specs.declared.judging.Fault.TheVariants.{PastRoom, Twice, NotPending, Differs}
use Rattle.kq_judge.specs.declared.judging.Judgement.{Judgement}
use Rattle.kq_judge.specs.declared.judging.Judgement.TheVariants.{Allowed, Wrong, Missing}
use Rattle.kq_judge.specs.declared.member.Ignored.{Ignored}
use Rattle.kq_judge.specs.Allowed.{IsAllowed}
use Rattle.kq_judge.specs.Pending.{IsPending, IsAbsence}
use Rattle.kq_judge.specs.Same.{IsSame, IsFirstDifference}

-- the event is the one that is pending, but for what is not compared
pub record IsRightEvent {S : Type 0} {h : Hearing S} (ignored : List Ignored) (views : Views) (knotes : List (Knote h))
    (e : Kevent) : Type 0 where
  pub expected : Kevent
  pub pending : IsPending views knotes (key_of_event e) expected
  pub same : IsSame ignored expected e

-- nothing is wrong with these events but that others may be missing
pub record AreRight {S : Type 0} {h : Hearing S} (ignored : List Ignored) (views : Views) (knotes : List (Knote h))
    (events : List Kevent) : Type 0 where
  pub each : Each (IsRightEvent ignored views knotes) events
  pub once : AreOnce (map key_of_event events)

-- what is wrong first with an event behind those of these keys, where there is room
abbrev pub IsOwnFault : {S : Type 0} {h : Hearing S} → List Ignored → Views → List (Knote h) → List Key
    → Kevent
    → Fault → Type 0
IsOwnFault ignored views knotes before e PastRoom = ⊥
IsOwnFault ignored views knotes before e Twice = has_key (key_of_event e) before ≡ true
IsOwnFault ignored views knotes before e (NotPending absence) = IsAbsence views knotes (key_of_event e) absence
IsOwnFault ignored views knotes before e (Differs member expected) =
    IsPending views knotes (key_of_event e) expected × (has_key (key_of_event e) before ≡ false)
    × IsFirstDifference ignored expected e member

-- nothing is wrong with it, where there is room
pub record IsRightBehind {S : Type 0} {h : Hearing S} (ignored : List Ignored) (views : Views) (knotes : List (Knote h))
    (before : List Key) (e : Kevent) : Type 0 where
  pub right : IsRightEvent ignored views knotes e
  pub new : has_key (key_of_event e) before ≡ false

-- what is wrong first with an event behind these
abbrev pub IsFault : {S : Type 0} {h : Hearing S} → List Ignored → Views → ℕ → List (Knote h)
    → List Kevent → Kevent
    → Fault → Type 0
IsFault ignored views room knotes before e PastRoom = room ≤ length before
IsFault ignored views room knotes before e fault =
    (length before < room) × IsOwnFault ignored views knotes (map key_of_event before) e fault

-- the event at this place is the first that is wrong, and this is what is wrong with it first
pub record IsWrongAt {S : Type 0} {h : Hearing S} (ignored : List Ignored) (views : Views) (room : ℕ)
    (knotes : List (Knote h)) (own : List Kevent) (at : ℕ) (fault : Fault) : Type 0 where
  pub event : Kevent
  pub there : slice_get own at ≡ Some event
  pub right_before : AreRight ignored views knotes (take at own)
  pub within_before : at ≤ room
  pub fault_is : IsFault ignored views room knotes (take at own) event fault

-- of these keys, those of which an event is pending are among those that were returned
abbrev pub AreReturned : {S : Type 0} {h : Hearing S} → Views → List (Knote h) → List Key → List Key → Type 0
AreReturned views knotes keys returned =
    (key : Key) (e : Kevent) → has_key key keys ≡ true → IsPending views knotes key e
    → has_key key returned ≡ true

-- an event of this key is pending, and it is not among those that were returned; it is the first such key of the queue
pub record IsFirstHeldBack {S : Type 0} {h : Hearing S} (views : Views) (knotes : List (Knote h))
    (queue returned : List Key) (key : Key) : Type 0 where
  pub place : ℕ
  pub there : slice_get queue place ≡ Some key
  pub event : Kevent
  pub pending : IsPending views knotes key event
  pub absent : has_key key returned ≡ false
  pub first : AreReturned views knotes (take place queue) returned

-- all events are right and there was room left, and this key was held back
pub record IsMissing {S : Type 0} {h : Hearing S} (ignored : List Ignored) (views : Views) (room : ℕ) (kq : Kqueue h)
    (own : List Kevent) (key : Key) : Type 0 where
  pub right : AreRight ignored views kq.knotes own
  pub less : length own < room
  pub held_back : IsFirstHeldBack views kq.knotes kq.queue (map key_of_event own) key

module _ {S : Type 0} {h : Hearing S} where
  -- allowed exactly where it is; else what is wrong with it first
  abbrev pub IsJudged : List Ignored → Views → ℕ → Kqueue h → List Kevent → Judgement → Type 0
  IsJudged ignored views room kq own Allowed = IsAllowed ignored views room kq own
  IsJudged ignored views room kq own (Wrong at fault) =
      (IsAllowed ignored views room kq own → ⊥) × IsWrongAt ignored views room kq.knotes own at fault
  IsJudged ignored views room kq own (Missing key) =
      (IsAllowed ignored views room kq own → ⊥) × IsMissing ignored views room kq own key

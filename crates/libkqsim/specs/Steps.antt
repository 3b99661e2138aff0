-- What a call of the library does to the system: the clauses of `System::apply`, and the number that C gets.
use Rattle.std.specs.Prelude.{◌≡◌, ◌≤◌, ◌+◌, ◌-◌, ◌^◌, ℕ, ℤ, List, length, take}
use Rattle.std.specs.Prelude.{nat_lt, if◌then◌else◌}
use Rattle.std.specs.Prelude.{Option, Some, None, Result, Err, IfOk, OnErr, OnOk}
use Rattle.kq_freebsd.specs.declared.c_kevent.CKevent.{CKevent}
use Rattle.kq_freebsd.specs.declared.refusal.Refusal.{Refusal}
use Rattle.kq_freebsd.specs.declared.refusal.Refusal.TheVariants.{Argument, Full, Memory}
use Rattle.kq_freebsd.specs.Answers.{events_of, number_of, refusal_number}
use Rattle.kq_freebsd.specs.Kevents.{AreChanges, handed_out}
use Rattle.kq_model.specs.declared.change.Change.{Change}
use Rattle.kq_model.specs.declared.event.Event.{Event}
use Rattle.kq_model.specs.declared.event.Event.TheVariants as event_of
use Rattle.kq_model.specs.declared.reply.Reply.{Reply}
use Rattle.kq_model.specs.ClosedNumbers.{ClosesAll}
use Rattle.kq_model.specs.Hearing.{listed}
use Rattle.kq_model.specs.Objects as objects
use Rattle.kq_model.specs.Recast.{IsTalliedStep, tallied_system}
use Rattle.kq_model.specs.System as model
use Rattle.kq_model.specs.System.{step}
use Rattle.kq_model.specs.WatchedNumbers.{AllWatchTheirNumbers}
use Rattle.kq_system.specs.SystemState.{SystemState, IsStep, IsUnchanged, system_of}
use Rattle.libkqsim.specs.Logs.{IsLogged, SimState}

-- the records that a system takes
abbrev pub most_records : ℕ
most_records = 2 ^ 31 - 1

-- the event is applied to the old system, with this answer; after a refusal nothing has changed
pub record IsAnswered (event : Event) (old new : SystemState) (answer : Result Reply Refusal) : Type 0 where
  pub reply : IfOk answer (IsStep (old.applied + 1) event (system_of old) (system_of new))
  -- the same in the words of the definitions, which keep all that was recorded and heard
  pub model : IfOk answer (λ reply. (m : model.System listed objects.listed) → system_of old ≡ tallied_system m
      → IsTalliedStep (system_of new) reply (step (old.applied + 1) event m))
  -- no kqueue keeps a knote of a number that was closed
  pub closed : OnOk answer (ClosesAll (old.applied + 1) event (system_of old) (system_of new))
  -- each READ, WRITE or VNODE knote watches what its number names now
  pub watched : OnOk answer (AllWatchTheirNumbers (system_of new))
  pub applied : IfOk answer (λ _. new.applied ≡ old.applied + 1)
  pub refused : OnErr answer (IsUnchanged old new)
  pub full : answer ≡ Err Full → most_records ≤ old.applied
  pub argument : answer ≡ Err Argument → ⊥

-- nothing has changed, and nothing is logged
abbrev pub IsSame : SimState → SimState → Type 0
IsSame old new = IsUnchanged old.system new.system × (new.log ≡ old.log)

-- the event is applied, and logged where the log is on, and the number says with which answer
abbrev pub IsNumbered : Event → SimState → SimState → ℤ → Type 0
IsNumbered event old new number =
    (answer : Result Reply Refusal) × IsAnswered event old.system new.system answer × IsLogged event old new answer
    × (number ≡ number_of answer)

-- nothing has changed, and the number says that an argument is none that the call takes
abbrev pub IsNoArgument : SimState → SimState → ℤ → Type 0
IsNoArgument old new number = IsSame old new × (number ≡ refusal_number Argument)

-- the same for a record with a choice, which a number stood for
abbrev pub IsChosen : {X : Type 0} → Option X → (X → Event) → SimState → SimState → ℤ → Type 0
IsChosen None event old new number = IsNoArgument old new number
IsChosen (Some x) event old new number = IsNumbered (event x) old new number

-- the room of a call is the length of its array, where that fits into 32 bits
abbrev pub room_of : List CKevent → ℕ
room_of array = if nat_lt (length array) (2 ^ 32) then length array else 2 ^ 32 - 1

-- a kevent call was made with these changes, and its events are in the array and counted
pub record IsCall (pid fd : ℕ) (changes before after : List CKevent) (old new : SimState) (count : ℕ)
    (number : ℤ)
    : Type 0 where
  pub asked : List Change
  pub answer : Result Reply Refusal
  pub read : AreChanges changes asked
  pub answered : IsAnswered (event_of.Kevent pid fd asked (room_of before)) old.system new.system answer
  pub logged : IsLogged (event_of.Kevent pid fd asked (room_of before)) old new answer
  pub numbered : number ≡ number_of answer
  pub handed : after ≡ handed_out (events_of answer) before
  pub counted : count ≡ length (take (length before) (events_of answer))

-- no call was made for want of memory, and nothing has changed
pub record IsNoCall (before after : List CKevent) (old new : SimState) (count : ℕ) (number : ℤ) : Type 0 where
  pub unchanged : IsSame old new
  pub numbered : number ≡ refusal_number Memory
  pub untouched : after ≡ before
  pub none : count ≡ 0

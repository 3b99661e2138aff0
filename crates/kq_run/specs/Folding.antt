-- How far the whole system was folded over a trace, and the report of what it answered so far.
use Rattle.std.specs.Prelude.{◌≡◌, ℕ, ◌+◌, List, ◌++◌, length, Some}
use Rattle.kq_model.specs.declared.event.Event.{Event}
use Rattle.kq_model.specs.declared.row.Row.{Row}
use Rattle.kq_model.specs.System as model
use Rattle.kq_model.specs.System.{rows_after}
use Rattle.kq_merge.specs.Written.{written}
use Rattle.kq_system.specs.SystemState.{SystemState, system_of}
use Rattle.kq_run.specs.declared.fold.Fold.{Fold}
use Rattle.kq_run.specs.declared.folding.Folder.{Folder}

-- these are the rows of these events, whatever comes behind
pub record AreRowsOf (old new : SystemState) (events : List Event) (rows : List Row) : Type 0 where
  pub applied : new.applied ≡ old.applied + length events
  pub ahead : (later : List Event) → rows ++ rows_after (new.applied + 1) (system_of new) later
      ≡ rows_after (old.applied + 1) (system_of old) (events ++ later)

-- the system went on by these events, and what takes the rows took theirs
abbrev pub Answers : {K : Type 0} → (K → List Row → Type 0) → SystemState → K → SystemState → K
    → List Event → Type 0
Answers took old before new after events = (rows : List Row) × AreRowsOf old new events rows
    × ((so_far : List Row) → took before so_far → took after (so_far ++ rows))

-- over these events of a trace of this version
pub record IsFolded (version : ℕ) (f : Fold) (events : List Event) : Type 0 where
  pub applied : f.system.value.applied ≡ length events
  -- of these rows the lines are written
  pub rows : List Row
  pub text : f.text ≡ written rows
  -- with the rows that wait and those of what comes behind they are the rows of one fold
  pub ahead : (later : List Event)
      → (rows ++ f.waiting.items) ++ rows_after (length events + 1) (system_of f.system.value) later
      ≡ model.rows version (events ++ later)

-- over these events more, whatever the trace was before
pub record GoesOn (old new : Fold) (events : List Event) : Type 0 where
  pub applied : new.system.value.applied ≡ old.system.value.applied + length events
  pub folded : (version : ℕ) (before : List Event) → IsFolded version old before
      → IsFolded version new (before ++ events)

abbrev pub HasFolded : ℕ → Folder → List Event → Type 0
HasFolded version f events = (fold : Fold) × (f.fold ≡ Some fold) × IsFolded version fold events

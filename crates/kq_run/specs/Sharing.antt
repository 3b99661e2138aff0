-- How far a trace was folded by several threads, and the report of what was answered so far.
use Rattle.std.specs.Prelude.{◌≡◌, ◌+◌, ℕ, List, [], ◌++◌, length, map}
use Rattle.kq_model.specs.declared.event.Event.{Event}
use Rattle.kq_model.specs.declared.row.Row.{Row}
use Rattle.kq_model.specs.Limits.{IsVersion}
use Rattle.kq_model.specs.System.{empty_system, rows_after, system_after}
use Rattle.kq_model.specs.Tallied.{System}
use Rattle.kq_merge.specs.Written.{written}
use Rattle.kq_shares.specs.Whole.{AreRowsOf, AreSharesOf}
use Rattle.kq_run.specs.declared.shared_fold.SharedFold.{SharedFold}
use Rattle.kq_run.specs.declared.sharing.Folding.{Folding}
use Rattle.kq_run.specs.declared.sharing.Folding.TheVariants.{New, Begun, Whole, Shared, Refused}
use Rattle.kq_run.specs.declared.sharing.Sharer.{Sharer}
use Rattle.kq_run.specs.Folding.{IsFolded}
use Rattle.kq_run.specs.Replay.{HasKqueues}

abbrev pub begin : ℕ → System
begin version = empty_system version

-- these shares went over these events of a trace of this version
pub record IsShared (version : ℕ) (f : SharedFold) (events : List Event) : Type 0 where
  pub records : f.records ≡ length events
  pub shares : AreSharesOf (length events) (system_after 1 (begin version) events)
      (map (λ b. b.value) f.shares.shares.items)
  -- of these rows the lines are written
  pub rows : List Row
  pub text : f.text ≡ written rows
  -- and these wait
  pub others : List Row
  pub waiting : AreRowsOf f.waiting.items others
  pub all : rows ++ others ≡ rows_after 1 (begin version) events

-- a start is refused only where two kqueues are made
abbrev pub Folds : ℕ → Folding → List Event → Type 0
Folds version New events = ⊥
Folds version (Begun v) events = (v ≡ version) × IsVersion version × (events ≡ [])
Folds version (Whole fold) events = IsFolded version fold events
Folds version (Shared fold) events = IsShared version fold events × HasKqueues version events
Folds version Refused events = HasKqueues version events

abbrev pub HasFolded : ℕ → Sharer → List Event → Type 0
HasFolded version s events = Folds version s.folding events

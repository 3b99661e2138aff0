-- A trace seen kqueue by kqueue: the kqueues that it makes, what of it concerns each, what each gives alone, and
-- how all rows come back from these.
use Rattle.std.specs.Prelude.{◌≡◌, ℕ, List, ◌++◌, All, Some}
use Rattle.std.specs.List.{flat_map}
use Rattle.std.specs.List.Sorted.{IsPermutation}
use Rattle.kq_model.specs.declared.event.Event.{Event}
use Rattle.kq_model.specs.declared.row.Row.{Row}
use Rattle.kq_model.specs.Births.{Birth, births_from}
use Rattle.kq_model.specs.Hearing.{Hearing}
use Rattle.kq_model.specs.Kqueue.{empty_kqueue}
use Rattle.kq_model.specs.Moment.{Moment}
use Rattle.kq_model.specs.Moments.{plans_from, moments_from, views_at}
use Rattle.kq_model.specs.Objects.{Keeping}
use Rattle.kq_model.specs.OwnedRows.{OwnedRow, owned_rows, rows_of, plain_from, Rise}
use Rattle.kq_model.specs.PrivateList.{Concern, private_list}
use Rattle.kq_model.specs.Replayed.{rows_alone}
use Rattle.kq_model.specs.System.{empty_system, rows_by}
use Rattle.kq_model.specs.Views.{Views}
use Rattle.kq_model.specs.World.{empty_world, Planned}

module _ {A B C D : Type 0} (k : Keeping A B C D) (version : ℕ) where
  -- ---- the trace, whose first record stands at place 1; `k` says how objects are kept

  abbrev pub plans : List Event → List Planned
  plans es = plans_from 1 (empty_world k) es

  abbrev pub moments : List Event → List Moment
  moments es = moments_from version 1 (empty_world k) (plans es)

  -- what is seen of the world after a place
  abbrev pub history : List Event → ℕ → Views
  history es = views_at 1 (empty_world k) (plans es)

  -- by rising place of birth
  abbrev pub kqueues : List Event → List Birth
  kqueues es = births_from 1 (plans es)

  -- the rows of impossible records
  abbrev pub plain_rows : List Event → List Row
  plain_rows es = plain_from 1 (plans es)

  -- ---- one kqueue

  abbrev pub private_of : List Event → Birth → List Concern
  private_of es b = private_list b.place b.owner (moments es)

  module _ {S : Type 0} (h : Hearing S) where
    -- what it gives alone, from its private list and the history at its places
    abbrev pub replayed : List Event → Birth → List Row
    replayed es b = rows_alone version b.place b.owner (history es) (empty_kqueue {h = h}) (private_of es b)

    -- the rows of the fold of the whole system, each with its kqueue
    abbrev pub folded : List Event → List OwnedRow
    folded es = owned_rows 1 (empty_system {h = h} {k = k} version) (plans es)

    -- ---- the law

    -- each kqueue gives alone exactly its rows of the fold
    abbrev pub AreProjected : List Event → Type 0
    AreProjected es = All (λ b. replayed es b ≡ rows_of (Some b.place) (folded es)) (kqueues es)

    -- and these with the plain rows are all rows of the fold, each once; the fold's stand by rising place
    abbrev pub AreMerged : List Event → Type 0
    AreMerged es =
        IsPermutation (flat_map (replayed es) (kqueues es) ++ plain_rows es) (rows_by h k version es)
        × Rise (rows_by h k version es)

    -- the rows of each kqueue alone, and the plain rows, stand by rising place
    abbrev pub AreRising : List Event → Type 0
    AreRising es = All (λ b. Rise (replayed es b)) (kqueues es) × Rise (plain_rows es)

-- What the kqueues of a trace are replayed to.
use Rattle.std.specs.Prelude.{◌≡◌, ℕ, List, ◌++◌, map, All, Some}
use Rattle.std.specs.List.{flat_map}
use Rattle.std.specs.List.Sorted.{IsPermutation}
use Rattle.kq_model.specs.declared.rows.Rows.{Rows}
use Rattle.kq_model.specs.Hearing.{listed}
use Rattle.kq_model.specs.Objects as objects
use Rattle.kq_model.specs.OwnedRows.{rows_of, Rise}
use Rattle.kq_model.specs.Projection.{folded}
use Rattle.kq_model.specs.System.{rows}
use Rattle.kq_projection.specs.Traced.{Traced, places_of, plain_rows_of}

-- exactly those rows that the kqueue of this place has in the fold of the whole system over the trace
abbrev pub rows_in_fold : Traced → ℕ → Rows
rows_in_fold t kqueue = record {
  kqueue = kqueue;
  rows = rows_of (Some kqueue) (folded objects.listed t.version listed t.events);
}

-- the kqueue of this place was replayed to these, which stand by rising place
pub record IsReplayed (t : Traced) (kqueue : ℕ) (one : Rows) : Type 0 where
  pub same : one ≡ rows_in_fold t kqueue
  pub rise : Rise one.rows

pub record AreReplayed (t : Traced) (kqueues : List Rows) : Type 0 where
  -- one for each kqueue, in the order of their birth
  pub each : kqueues ≡ map (rows_in_fold t) (places_of t)
  -- those of each stand by rising place
  pub rise : All (λ (one : Rows). Rise one.rows) kqueues
  -- and so do those of impossible records
  pub plain : Rise (plain_rows_of t)
  -- together they are all rows of the trace, each once
  pub whole : IsPermutation (flat_map (λ (one : Rows). one.rows) kqueues ++ plain_rows_of t) (rows t.version t.events)
  -- which stand by rising place too
  pub ordered : Rise (rows t.version t.events)

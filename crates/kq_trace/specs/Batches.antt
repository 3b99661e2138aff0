-- Lines that are decoded in batches.
use Rattle.std.specs.Prelude.{◌≡◌, ℕ, ◌+◌, ◌<◌, ◌≤◌, List, flat_map, length}
use Rattle.std.specs.List.{AllZip}
use Rattle.kq_model.specs.declared.event.Event.{Event}
use Rattle.kq_model.specs.Limits.{most_records}
use Rattle.kq_model.specs.Reading.{Good, Bad as BadLine, read_records}
use Rattle.kq_trace.specs.declared.batches.Batch.{Batch}
use Rattle.kq_trace.specs.declared.batches.Batch.TheVariants.{Records, Bad, Memory}
use Rattle.kq_trace.specs.declared.fault.TraceError.{TraceError}
use Rattle.kq_trace.specs.Unread.{IsFaultAhead}

-- Wherever these lines stand among those that may be records, they are these.
abbrev pub AreRecordsAnywhere : List (List ℕ) → List Event → Type 0
AreRecordsAnywhere lines events =
    (length events ≡ length lines)
    × ((version first : ℕ)
    → first + length lines ≤ 2 + most_records
    → read_records version first lines ≡ Good version events)

-- These lines are read so wherever they stand among those that may be records: a record off each, or the first bad one.
-- That memory is short says nothing of them.
abbrev pub IsReadAs : List (List ℕ) → Batch → Type 0
IsReadAs lines (Records events) = AreRecordsAnywhere lines events.items
IsReadAs lines (Bad place fault) =
    (place < length lines)
    × ((version first : ℕ)
    → first + length lines ≤ 2 + most_records
    → read_records version first lines ≡ BadLine (first + place) fault)
IsReadAs lines Memory = Unit {0}

-- The lines were cut into parts, and each part is read as the batch at its place.
abbrev pub AreReadAs : List (List ℕ) → List Batch → Type 0
AreReadAs lines batches =
    (parts : List (List (List ℕ))) × (flat_map (λ part. part) parts ≡ lines) × AllZip IsReadAs parts batches

-- Numbered from `first`, these lines are these records.
abbrev pub AreRecords : ℕ → List (List ℕ) → List Event → Type 0
AreRecords first lines events = (version : ℕ) → read_records version first lines ≡ Good version events

-- Numbered from `first`, this is the first bad line of these. That memory is short says nothing of them.
abbrev pub IsFaultAmong : ℕ → List (List ℕ) → TraceError → Type 0
IsFaultAmong first lines error = (version : ℕ) → IsFaultAhead (read_records version first lines) error

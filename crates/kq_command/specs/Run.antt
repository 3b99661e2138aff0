-- What a run of the program leaves, by the bytes that its reader had and those that its writer got.
use Rattle.std.specs.Prelude.{◌≡◌, ◌⊎◌, ℕ, List, ◌++◌, Option, string_bytes}
use Rattle.std.specs.Io.KnownBytes.{Appends, Keeps}
use Rattle.kq_run.specs.Fault.{status_of}
use Rattle.kq_run.specs.Living.{IsBookText, IsLiveFault, IsLiveReport}
use Rattle.kq_run.specs.Replay.{Had, IsFault, IsReport}
use Rattle.kq_run.specs.Workers.{IsThreadCount, IsWorkerCount}
use Rattle.kq_run.specs.declared.fault.Fault.{Fault}
use Rattle.kq_run.specs.declared.fault.Fault.TheVariants.{Usage, Read, Trace, Memory, Spawn, Write}
use Rattle.kq_command.specs.declared.order.Order.{Order}
use Rattle.kq_command.specs.declared.order.Order.TheVariants as order

-- the most bytes that the program reads
abbrev pub most_bytes : ℕ
most_bytes = 268435456

abbrev pub file_of : Order → List ℕ
file_of (order.Replay workers file) = string_bytes file
file_of (order.Live threads file) = string_bytes file
file_of (order.Book threads file) = string_bytes file

-- its number of workers or threads is in range
abbrev pub IsInRange : Order → Type 0
IsInRange (order.Replay workers file) = IsWorkerCount workers
IsInRange (order.Live threads file) = IsThreadCount threads
IsInRange (order.Book threads file) = IsThreadCount threads

-- what the order makes of these bytes: a report, or the text of a book
abbrev pub IsOutput : Order → List ℕ → List ℕ → Type 0
IsOutput (order.Replay workers file) bytes text = IsReport bytes text
IsOutput (order.Live threads file) bytes text = IsLiveReport bytes threads text
IsOutput (order.Book threads file) bytes text = IsBookText bytes threads text

-- the fault can come from these bytes
abbrev pub IsOutputFault : Order → List ℕ → Fault → Type 0
IsOutputFault (order.Replay workers file) bytes fault = IsFault bytes workers fault
IsOutputFault (order.Live threads file) bytes fault = IsLiveFault bytes threads fault
IsOutputFault (order.Book threads file) bytes fault = IsLiveFault bytes threads fault

-- what the order makes of the bytes that a reader has
abbrev pub IsReaderOutput : Order → Option (List ℕ) → List ℕ → Type 0
IsReaderOutput o given text = (bytes : List ℕ) × Had given most_bytes bytes × IsOutput o bytes text

-- the fault can come from what a reader has, if that is in range
abbrev pub IsReaderFault : Order → Option (List ℕ) → Fault → Type 0
IsReaderFault o given Usage = ⊥
IsReaderFault o given Read = Unit {0}
IsReaderFault o given (Trace line fault) =
    (bytes : List ℕ) × Had given most_bytes bytes × IsOutputFault o bytes (Trace line fault)
IsReaderFault o given Memory = Unit {0}
IsReaderFault o given Spawn = (bytes : List ℕ) × Had given most_bytes bytes × IsOutputFault o bytes Spawn
IsReaderFault o given Write = ⊥

-- what the order makes of the reader's bytes was written
abbrev pub WritesOutput : Order → Option (List ℕ) → Option (List ℕ) → Option (List ℕ) → Type 0
WritesOutput o given before after =
    (bytes : List ℕ) × (text : List ℕ) × Had given most_bytes bytes × IsOutput o bytes text
    × Appends before after text

-- a prefix of that was written
abbrev pub WritesPart : Order → Option (List ℕ) → Option (List ℕ) → Option (List ℕ) → Type 0
WritesPart o given before after =
    (bytes : List ℕ) × (done : List ℕ) × (rest : List ℕ) × Had given most_bytes bytes
    × IsOutput o bytes (done ++ rest)
    × Appends before after done

-- the fault comes from the bytes that the reader had, and nothing was written
abbrev pub LeavesNothing : Fault → Order → Option (List ℕ) → Option (List ℕ) → Option (List ℕ) → Type 0
LeavesNothing fault o given before after =
    ((bytes : List ℕ) × Had given most_bytes bytes × IsOutputFault o bytes fault) × Keeps before after

-- after the fault; but for Write nothing was written
abbrev pub LeavesBy : Fault → Order → Option (List ℕ) → Option (List ℕ) → Option (List ℕ) → Type 0
LeavesBy Usage o given before after = ¬ IsInRange o × Keeps before after
LeavesBy Read o given before after = Keeps before after
LeavesBy (Trace line fault) o given before after = LeavesNothing (Trace line fault) o given before after
LeavesBy Memory o given before after = Keeps before after
LeavesBy Spawn o given before after = LeavesNothing Spawn o given before after
LeavesBy Write o given before after = WritesPart o given before after

-- status 0 is the whole output, any other the status of a fault
abbrev pub EndsBy : ℕ → Order → Option (List ℕ) → Option (List ℕ) → Option (List ℕ) → Type 0
EndsBy status o given before after =
    ((status ≡ 0) × WritesOutput o given before after)
    ⊎ ((fault : Fault) × (status ≡ status_of fault) × LeavesBy fault o given before after)

-- What contracts see of the processes that the code keeps: the model's processes and its table.
use Rattle.std.specs.Prelude.{◌≡◌, ℕ, ◌+◌, Bool, false, List, [], ◌∷◌, ◌++◌, map, sum_by}
use Rattle.std.specs.Prelude.{slice_index_or, Option, Some}
use Rattle.std.specs.Prelude.{None}
use Rattle.kq_model.specs.declared.object.Named.{Named}
use Rattle.kq_model.specs.Descriptors.{Descriptor, without_closed}
use Rattle.kq_model.specs.ProcessPlans.{pairs_of}
use Rattle.kq_model.specs.Processes as model
use Rattle.kq_process.specs.declared.ignored.Ignored.{Ignored}
use Rattle.kq_process.specs.declared.process.Process.{Process}
use Rattle.kq_process.specs.declared.processes.Processes.{Processes}

-- whether a signal is ignored
abbrev pub ignored_in : Ignored → ℕ → Bool
ignored_in i signal = slice_index_or i.by_number signal false

abbrev pub process_in : ℕ × Process → model.Process
process_in e = record { pid = e.0; exited = e.1.exited; ignores = ignored_in e.1.ignored }

abbrev pub descriptor_in : ℕ → ℕ × Named → Descriptor
descriptor_in pid d = record { pid = pid; number = d.0; named = d.1 }

-- the descriptors of one process
abbrev pub descriptors_in : ℕ → List (ℕ × Named) → List Descriptor
descriptors_in pid ds = map (descriptor_in pid) ds

-- those of all processes
abbrev pub table_in : List (ℕ × Process) → List Descriptor
table_in [] = []
table_in (e ∷ es) = descriptors_in e.0 e.1.descriptors ++ table_in es

abbrev pub processes_of : Processes → List model.Process
processes_of p = map process_in p.shelf

abbrev pub table_of : Processes → List Descriptor
table_of p = table_in p.shelf

-- what an open number of a process names, as a descriptor
abbrev pub descriptor_there : ℕ → ℕ → Option Named → List Descriptor
descriptor_there pid number None = []
descriptor_there pid number (Some n) = descriptor_in pid (number, n) ∷ []

-- each of these stands in the table just once: whatever is counted over the table is counted over them and
-- over what is left without them
abbrev pub AreOnce : List Descriptor → List Descriptor → Type 0
AreOnce ds table =
    (count : Descriptor → ℕ) → sum_by count table
    ≡ sum_by count (without_closed (pairs_of ds) table) + sum_by count ds

-- The exit statuses of the program, and the fault of an input that is no trace.
use Rattle.std.specs.Prelude.{ℕ}
use Rattle.kq_trace.specs.declared.fault.TraceError.TheVariants as error
use Rattle.kq_trace.specs.declared.input_error.InputError.{InputError}
use Rattle.kq_trace.specs.declared.input_error.InputError.TheVariants as input
use Rattle.kq_split.specs.declared.fault.Fault.{Fault}
use Rattle.kq_split.specs.declared.fault.Fault.TheVariants.{Usage, NoKqueue, Read, Trace, Memory, Write}

abbrev pub status_of : Fault → ℕ
status_of Usage = 2
status_of (NoKqueue at) = 2
status_of Read = 3
status_of (Trace line fault) = 4
status_of Memory = 5
status_of Write = 7

abbrev pub input_fault_of : InputError → Fault
input_fault_of input.Read = Read
input_fault_of (input.Trace error.Memory) = Memory
input_fault_of (input.Trace (error.Bad line fault)) = Trace line fault

-- Faults, and the statuses that they end the program with: those of `kqsim`.
use Rattle.std.specs.Prelude.{ℕ}
use Rattle.kq_input.specs.declared.lines.LinesError.{LinesError}
use Rattle.kq_input.specs.declared.lines.LinesError.TheVariants as error
use Rattle.kq_step.specs.declared.fault.Fault.{Fault}
use Rattle.kq_step.specs.declared.fault.Fault.TheVariants.{Usage, Read, Header, Memory, Write}

abbrev pub status_of : Fault → ℕ
status_of Usage = 2
status_of Read = 3
status_of (Header fault) = 4
status_of Memory = 5
status_of Write = 7

abbrev pub fault_of : LinesError → Fault
fault_of error.Read = Read
fault_of error.Memory = Memory

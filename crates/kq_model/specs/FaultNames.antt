-- The names of what is wrong with a line.
use Rattle.std.specs.Prelude.{ℕ, List, codes}
use Rattle.kq_model.specs.declared.line_fault.LineFault.{LineFault}
use Rattle.kq_model.specs.declared.line_fault.LineFault.TheVariants.{TooLong, Header, TooManyRecords, Json, Field}
use Rattle.kq_model.specs.declared.line_fault.LineFault.TheVariants.{Range}

abbrev pub fault_name : LineFault → List ℕ
fault_name TooLong = codes "TooLong"
fault_name Header = codes "Header"
fault_name TooManyRecords = codes "TooManyRecords"
fault_name Json = codes "Json"
fault_name Field = codes "Field"
fault_name Range = codes "Range"

-- What a read that fails is.
use Rattle.kq_trace.specs.declared.input_error.InputError.{InputError}
use Rattle.kq_trace.specs.declared.input_error.InputError.TheVariants.{Read, Trace}

abbrev pub IsReadFault : Type 0 → InputError → Type 0
IsReadFault may_fail Read = may_fail
IsReadFault may_fail (Trace error) = ⊥

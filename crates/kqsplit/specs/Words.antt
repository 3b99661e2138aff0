-- What the words behind the program's name ask for.
use Rattle.std.specs.Prelude.{ℕ, Bool, true, false, Option, Some, None, Result, Ok, Err}
use Rattle.kq_split.specs.declared.fault.Fault.{Fault}
use Rattle.kq_split.specs.declared.fault.Fault.TheVariants.{Usage}
use Rattle.kq_split.specs.declared.wanted.Wanted.{Wanted}
use Rattle.kq_split.specs.declared.wanted.Wanted.TheVariants.{Kqueues, Items, Rows}

-- with the place behind `--kqueue`, and whether there is `--rows`
abbrev pub wanted_of : Option ℕ → Bool → Result Wanted Fault
wanted_of None false = Ok Kqueues
wanted_of (Some kqueue) false = Ok (Items kqueue)
wanted_of (Some kqueue) true = Ok (Rows kqueue)
wanted_of None true = Err Usage

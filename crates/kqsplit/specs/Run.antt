-- What a run of the program leaves, by the bytes that its reader had and those that its writer got.
use Rattle.std.specs.Prelude.{◌≡◌, ◌⊎◌, ℕ, List, Option}
use Rattle.kq_split.specs.Fault.{status_of}
use Rattle.kq_split.specs.Written.{LeavesBy, Writes}
use Rattle.kq_split.specs.declared.fault.Fault.{Fault}
use Rattle.kqsplit.specs.declared.order.Order.{Order}

-- the most bytes that the program reads
abbrev pub most_bytes : ℕ
most_bytes = 268435456

-- status 0 is all that was wanted, any other the status of a fault
abbrev pub EndsBy : ℕ → Order → Option (List ℕ) → Option (List ℕ) → Option (List ℕ) → Type 0
EndsBy status o given before after =
    ((status ≡ 0) × Writes o.wanted given most_bytes before after)
    ⊎ ((fault : Fault) × (status ≡ status_of fault) × LeavesBy fault o.wanted given most_bytes before after)

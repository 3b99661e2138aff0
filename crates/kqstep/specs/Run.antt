-- What a run of the program leaves, by the bytes that its reader had and has, and those that its writer got.
use Rattle.std.specs.Prelude.{◌≡◌, ◌⊎◌, ℕ, List, ◌++◌, Option}
use Rattle.std.specs.Io.KnownBytes.{Appends, Keeps}
use Rattle.kq_step.specs.Answering.{LeavesBy, WroteAll}
use Rattle.kq_step.specs.Fault.{status_of}
use Rattle.kq_step.specs.declared.fault.Fault.{Fault}
use Rattle.kq_step.specs.declared.fault.Fault.TheVariants.{Usage, Read, Header, Memory, Write}
use Rattle.kqstep.specs.declared.order.Order.{Order}
use Rattle.kqstep.specs.declared.order.Order.TheVariants.{Answers, Help}

-- a part of a text was written, or nothing where memory was refused
abbrev pub IsCut : List ℕ → Option (List ℕ) → Option (List ℕ) → Fault → Type 0
IsCut text before after Usage = ⊥
IsCut text before after Read = ⊥
IsCut text before after (Header fault) = ⊥
IsCut text before after Memory = Keeps before after
IsCut text before after Write =
    (done : List ℕ) × (rest : List ℕ) × (text ≡ done ++ rest) × Appends before after done

-- Status 0: all was answered, or the help written. Any other is that of a fault.
abbrev pub EndsBy : ℕ → Order → Option (List ℕ) → Option (List ℕ) → Option (List ℕ) → Option (List ℕ) → Type 0
EndsBy status Answers given left before after =
    ((status ≡ 0) × WroteAll given before after)
    ⊎ ((fault : Fault) × (status ≡ status_of fault) × LeavesBy given left before after fault)
EndsBy status Help given left before after =
    (text : List ℕ) × (((status ≡ 0) × Appends before after text)
    ⊎ ((fault : Fault) × (status ≡ status_of fault) × IsCut text before after fault))

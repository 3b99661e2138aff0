-- What a call leaves that writes a text: the whole of it, or a fault.
use Rattle.std.specs.Prelude.{◌≡◌, ◌⊎◌, ◌++◌, ℕ, List, Option}
use Rattle.std.specs.Io.KnownBytes.{Appends, Keeps}
use Rattle.kq_run.specs.declared.fault.Fault.{Fault}
use Rattle.kq_run.specs.declared.fault.Fault.TheVariants.{Write}

-- such a text was written
abbrev pub Writes : (List ℕ → Type 0) → Option (List ℕ) → Option (List ℕ) → Type 0
Writes is_text before after = (text : List ℕ) × is_text text × Appends before after text

-- a prefix of such a text was written
abbrev pub WritesPart : (List ℕ → Type 0) → Option (List ℕ) → Option (List ℕ) → Type 0
WritesPart is_text before after =
    (done : List ℕ) × (rest : List ℕ) × is_text (done ++ rest) × Appends before after done

-- it is such a fault, and nothing was written; or it is Write, and a prefix of such a text was
abbrev pub Leaves : (List ℕ → Type 0) → (Fault → Type 0) → Fault → Option (List ℕ) → Option (List ℕ)
    → Type 0
Leaves is_text is_fault fault before after =
    (is_fault fault × Keeps before after) ⊎ ((fault ≡ Write) × WritesPart is_text before after)

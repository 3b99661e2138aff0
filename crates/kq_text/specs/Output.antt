-- Bytes that a writer took of a text.
use Rattle.std.specs.Prelude.{◌≡◌, ℕ, List, ◌++◌, Option}
use Rattle.std.specs.Io.KnownBytes.{Appends}

-- it took a prefix of them
abbrev pub AppendsPart : Option (List ℕ) → Option (List ℕ) → List ℕ → Type 0
AppendsPart before after text =
    (done : List ℕ) × (rest : List ℕ) × (text ≡ done ++ rest) × Appends before after done

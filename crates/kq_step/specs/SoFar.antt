-- What was read and written between two lines, and what a call makes of it.
use Rattle.std.specs.Prelude.{◌≡◌, ℕ, ◌+◌, List, ◌∷◌, length, Option, Ok}
use Rattle.std.specs.Io.KnownBytes.{Appends}
use Rattle.kq_model.specs.Reading.{version_on}
use Rattle.kq_step.specs.Given.{AreEnded, AreRead}
use Rattle.kq_step.specs.Stepping.{answered, before_records, standing_after}
use Rattle.kq_step.specs.Stood.{IsAt, Stood}

-- a header and these lines were read and answered, and the next line has this number
pub record SoFar (given before left out : Option (List ℕ)) (number : ℕ) (s : Stood) : Type 0 where
  pub header : List ℕ
  pub lines : List (List ℕ)
  pub version : ℕ
  pub good : version_on header ≡ Ok version
  pub read : AreRead given (header ∷ lines) left
  pub ended : AreEnded given left (header ∷ lines)
  pub count : number ≡ 2 + length lines
  pub at : IsAt (standing_after (before_records version) lines) s
  pub wrote : Appends before out (answered (header ∷ lines))

-- whatever the input had and the output at first: if that is all so far, the call leaves this of them
abbrev pub FromSoFar : Option (List ℕ) → Option (List ℕ) → ℕ → Stood
    → (Option (List ℕ) → Option (List ℕ) → Type 0) → Type 0
FromSoFar left out number s Leaves =
    (given before : Option (List ℕ)) → SoFar given before left out number s → Leaves given before

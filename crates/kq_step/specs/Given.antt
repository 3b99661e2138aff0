-- The lines of an input, where it is known what it has.
use Rattle.std.specs.Prelude.{◌≡◌, ◌⊎◌, ℕ, List, [], ◌∷◌, ◌++◌, Option, Some, None, IfSome}
use Rattle.std.specs.Io.KnownBytes.{Consumes}
use Rattle.kq_input.specs.Unread.{lines_left}
use Rattle.kq_model.specs.Lines.{lines_of, pieces_of}

-- these are its first lines
abbrev pub BeginsWith : Option (List ℕ) → List (List ℕ) → Type 0
BeginsWith given lines = IfSome given (λ text. (later : List (List ℕ)) × (lines_of text ≡ lines ++ later))

-- these are all its lines
abbrev pub HasLines : Option (List ℕ) → List (List ℕ) → Type 0
HasLines given lines = IfSome given (λ text. lines_of text ≡ lines)

-- these were read, and this is left
abbrev pub AreRead : Option (List ℕ) → List (List ℕ) → Option (List ℕ) → Type 0
AreRead None lines left = Unit {0}
AreRead (Some text) lines None = ⊥
AreRead (Some text) lines (Some left) = lines_of text ≡ lines ++ lines_left left

-- ---- the lines of what was taken

unfoldable pub without_last : List (List ℕ) → List (List ℕ)
without_last [] = []
without_last (piece ∷ []) = []
without_last (piece ∷ next ∷ pieces) = piece ∷ without_last (next ∷ pieces)

-- the lines of a text that a line feed ends
abbrev pub whole_lines : List ℕ → List (List ℕ)
whole_lines text = without_last (pieces_of text)

-- it is known what the input had, nothing of it is left, and these are all its lines
abbrev pub AreAll : Option (List ℕ) → Option (List ℕ) → List (List ℕ) → Type 0
AreAll None left lines = ⊥
AreAll (Some text) None lines = ⊥
AreAll (Some text) (Some rest) lines = (rest ≡ []) × (lines_of text ≡ lines)

-- These are the lines that were whole in what was taken of an input, but for the last bytes of it: those that a line
-- feed ends, or all lines of an input of which nothing is left.
pub record AreWhole (given left : Option (List ℕ)) (lines : List (List ℕ)) (late : List ℕ) : Type 0 where
  pub seen : List ℕ
  pub taken : Consumes given left (seen ++ late)
  pub are : (lines ≡ whole_lines seen) ⊎ AreAll given left lines

-- Just these lines were taken, each with the line feed that ended it, whatever comes behind them; or these are all.
abbrev pub AreEnded : Option (List ℕ) → Option (List ℕ) → List (List ℕ) → Type 0
AreEnded given left lines =
    ((seen : List ℕ) × Consumes given left seen
    × ((rest : List ℕ) → pieces_of (seen ++ rest) ≡ lines ++ pieces_of rest))
    ⊎ AreAll given left lines

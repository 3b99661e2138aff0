-- The lines of a trace: its bytes cut at LF. An LF at the end adds no line, and empty input is one
-- empty line (this project's choice).
use Rattle.std.specs.Prelude.{ℕ, ◌==◌, List, [], ◌∷◌, if◌then◌else◌}

-- the byte that ends a line
abbrev pub line_feed : ℕ
line_feed = 10

unfoldable pub onto_first : ℕ → List (List ℕ) → List (List ℕ)
onto_first byte [] = (byte ∷ []) ∷ []
onto_first byte (piece ∷ pieces) = (byte ∷ piece) ∷ pieces

-- the pieces between the line feeds: one more than there are line feeds
unfoldable pub pieces_of : List ℕ → List (List ℕ)
pieces_of [] = [] ∷ []
pieces_of (byte ∷ bytes) = if byte == line_feed then [] ∷ pieces_of bytes else onto_first byte (pieces_of bytes)

-- without the piece behind the last line feed, where it is empty
unfoldable pub without_empty_end : List (List ℕ) → List (List ℕ)
without_empty_end [] = []
without_empty_end ([] ∷ []) = []
without_empty_end (piece ∷ pieces) = piece ∷ without_empty_end pieces

unfoldable pub lines_among : List (List ℕ) → List (List ℕ)
lines_among [] = []
lines_among (first ∷ pieces) = first ∷ without_empty_end pieces

unfoldable pub lines_of : List ℕ → List (List ℕ)
lines_of bytes = lines_among (pieces_of bytes)

-- The lines of what stands behind a line feed.
use denote.Ref.{Bor}
use Rattle.std.specs.Prelude.{ℕ, List, flat_map, map}
use Rattle.kq_model.specs.Lines.{pieces_of, without_empty_end}

unfoldable pub lines_behind : List ℕ → List (List ℕ)
lines_behind text = without_empty_end (pieces_of text)

-- the texts that these lines are
abbrev pub texts : List (Bor (List ℕ)) → List (List ℕ)
texts lines = map (λ line. line.now) lines

-- the lines in pieces of text that end with a line
abbrev pub lines_in : List (Bor (List ℕ)) → List (List ℕ)
lines_in pieces = flat_map (λ piece. lines_behind piece.now) pieces

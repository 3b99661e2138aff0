-- The lines of an input of which some bytes wait in a reader, and what reading one line more leaves.
use Rattle.std.specs.Prelude.{◌≡◌, ◌==◌, ◌<◌, ◌⊎◌, ℕ, Bool, true, false, List, [], ◌∷◌, ◌++◌, length, take}
use Rattle.std.specs.Prelude.{Option, Some, None}
use Rattle.std.specs.List.{list_any}
use Rattle.std.specs.Io.KnownBytes.{Consumes, IsAtEnd}
use Rattle.kq_model.specs.Lines.{line_feed, pieces_of, without_empty_end}

-- the lines of what stands behind a line feed
unfoldable pub lines_left : List ℕ → List (List ℕ)
lines_left text = without_empty_end (pieces_of text)

abbrev pub has_line_feed : List ℕ → Bool
has_line_feed text = list_any (λ b. b == line_feed) text

-- what contracts see of a reader of lines: what it kept of the line that it read last, and the bytes behind it
pub record LinesState : Type 0 where
  pub line : List ℕ
  pub waiting : List ℕ

-- bytes that one read takes at most
abbrev pub most_read_bytes : ℕ
most_read_bytes = 65536

-- The next line was read off what an input has, and of its bytes so many at most were kept. Nothing is said where it is
-- not known what the input has.
abbrev pub IsNextLine : ℕ → Option (List ℕ) → Option (List ℕ) → List ℕ → Type 0
IsNextLine most None after line = Unit {0}
IsNextLine most (Some text) None line = ⊥
IsNextLine most (Some text) (Some rest) line =
    (whole : List ℕ) × (lines_left text ≡ whole ∷ lines_left rest) × (line ≡ take most whole)

-- no line was left
abbrev pub IsLastLine : Option (List ℕ) → Option (List ℕ) → Type 0
IsLastLine before after = IsAtEnd before × IsAtEnd after

-- These bytes of a line were taken off what an input has, its line feed not among them, and none behind them. Of them
-- so many at most were kept.
pub record TookPart (most : ℕ) (before after : Option (List ℕ)) (line : List ℕ) : Type 0 where
  pub part : List ℕ
  pub plain : has_line_feed part ≡ false
  pub gone : Consumes before after part
  pub kept : line ≡ take most part

-- A whole line was taken, and the line feed that ended it; or some bytes that the input's end ended, behind which
-- nothing is left.
pub record TookLine (most : ℕ) (before after : Option (List ℕ)) (line : List ℕ) : Type 0 where
  pub whole : List ℕ
  pub plain : has_line_feed whole ≡ false
  pub gone : Consumes before after (whole ++ line_feed ∷ [])
      ⊎ ((0 < length whole) × Consumes before after whole × IsAtEnd after)
  pub kept : line ≡ take most whole

-- Bytes went behind those of a line, up to its line feed or all of them, and no more than so many are kept.
pub record HasMore (most : ℕ) (old new : LinesState) (ended : Bool) : Type 0 where
  pub piece : List ℕ
  pub plain : has_line_feed piece ≡ false
  pub kept : new.line ≡ take most (old.line ++ piece)
  pub closed : ended ≡ true → old.waiting ≡ piece ++ line_feed ∷ new.waiting
  pub whole : ended ≡ false → (old.waiting ≡ piece) × (new.waiting ≡ [])

-- A split of the records that came so far.
use Rattle.std.specs.Prelude.{◌≡◌, ℕ, length}
use Rattle.kq_projection.specs.declared.history.splitting.Splitting.{Splitting}
use Rattle.kq_projection.specs.Messages.{IsMessageLog}
use Rattle.kq_projection.specs.Traced.{Traced, plain_rows_of}
use Rattle.kq_projection.specs.Tracked.{IsTracked}

-- these are all records that came so far: the world is that after them, and what was seen and said is theirs
pub record IsSplitSoFar (t : Traced) (s : Splitting) : Type 0 where
  pub tracked : IsTracked t s.world s.seen
  pub said : IsMessageLog t s.said
  pub plain_is : s.plain.items ≡ plain_rows_of t

-- so many records came so far
abbrev pub AreSoMany : ℕ → Splitting → Type 0
AreSoMany count s = (t : Traced) × (length t.events ≡ count) × IsSplitSoFar t s

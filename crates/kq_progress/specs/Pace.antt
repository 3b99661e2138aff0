-- When a line that tells how far something is has to be shown, in milliseconds from its start.
use Rattle.std.specs.Prelude.{◌≤◌, ◌+◌, ℕ, Option, Some, None}

-- the first one after a second, and each further one a fifth of a second behind the one before
abbrev pub IsDue : ℕ → Option ℕ → Type 0
IsDue now None = 1000 ≤ now
IsDue now (Some at) = at + 200 ≤ now

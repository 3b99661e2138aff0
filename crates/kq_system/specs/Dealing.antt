-- Which share of a system a kqueue goes to (this project's choice).
use Rattle.std.specs.Prelude.{ℕ, ◌+◌, ◌*◌, ◌/◌, ◌%◌, ◌^◌, Option, Some, None}
use Rattle.kq_system.specs.declared.dealing.Dealing.{Dealing}

-- a place, mixed by multiplication with 2^64 over the golden ratio (Knuth, The Art of Computer Programming, 6.4), so
-- that places at regular distances are spread
abbrev pub mixed : ℕ → ℕ → ℕ
mixed seed place = (place + seed) % 2 ^ 64 * 11400714819323198485 % 2 ^ 64 / 2 ^ 33

-- by the place of birth; the first share has the rows of no kqueue
unfoldable pub share_for : Dealing → Option ℕ → ℕ
share_for d None = 0
share_for d (Some place) = mixed d.seed place % d.shares

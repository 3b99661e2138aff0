-- Room in bytes that grow.
use Rattle.std.specs.Prelude.{ℕ, ◌+◌, ◌≤◌, vec_len, vec_capacity}
use Rattle.std.specs.Global.{Vec}

-- there is room for so many bytes more
abbrev pub HasRoom : Vec ℕ → ℕ → Type 0
HasRoom out bytes = vec_len out + bytes ≤ vec_capacity out

-- no more than so many bytes came, and no capacity went
pub record TakesAtMost (old new : Vec ℕ) (bytes : ℕ) : Type 0 where
  pub len : vec_len new ≤ vec_len old + bytes
  pub capacity : vec_capacity old ≤ vec_capacity new

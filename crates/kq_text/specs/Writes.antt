-- A text that is written over bytes from a place on, up to another. What stands before it stays.
use Rattle.std.specs.Prelude.{◌≡◌, ◌+◌, ℕ, List, ◌++◌, length, take}

pub record Writes (before : List ℕ) (start : ℕ) (text after : List ℕ) (end : ℕ) : Type 0 where
  pub ends : end ≡ start + length text
  pub is : take end after ≡ take start before ++ text

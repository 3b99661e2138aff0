-- What a seat at a counter has claimed.
use Rattle.std.specs.Prelude.{◌≡◌, ℕ, ◌==◌, ◌≤◌, Bool, cond, ltb, List, sum_by}
use Rattle.atomic_table.specs.Seated.{TableId}

-- which counter it is, and how many numbers it hands out
pub record CounterName : Type 0 where
  pub table : TableId
  pub count : ℕ

-- A seat: its parts of the right to draw, the numbers that it claimed, and whether it was told that
-- all were handed out.
pub record Claiming : Type 0 where
  pub counter : CounterName
  pub parts : ℕ
  pub numbers : List ℕ
  pub done : Bool

-- 1 where the two are the same, and else 0
abbrev pub one_if_same : ℕ → ℕ → ℕ
one_if_same x y = cond (y == x) 1 0

-- how often x stands in the list
abbrev pub times : ℕ → List ℕ → ℕ
times x l = sum_by (one_if_same x) l

-- 1 where x is below n, and else 0
abbrev pub once_below : ℕ → ℕ → ℕ
once_below x n = cond (ltb x n) 1 0

-- no number stands in the list twice
abbrev pub IsAtMostOnce : List ℕ → Type 0
IsAtMostOnce l = (x : ℕ) → times x l ≤ 1

-- the numbers below n, each once, and no others
abbrev pub HasAll : ℕ → List ℕ → Type 0
HasAll n l = (x : ℕ) → times x l ≡ once_below x n

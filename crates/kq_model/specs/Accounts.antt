-- How what happened to an object is kept: as the list of its records, the latest first, or as the
-- quantities that are read off that list. Amounts that are differences are integers: the definitions
-- say nothing of when they are below zero.
use Rattle.std.specs.Prelude.{ℕ, ℤ, pos, ◌+ℤ◌, ◌-ℤ◌, Bool, false, ◌||◌, List, [], ◌∷◌}
use Rattle.std.specs.Prelude.{Option, Some, None}

-- R are the records of an object, Q its quantities, S what is kept of it
pub record Account (R Q S : Type 0) : Type 0 where
  pub fresh : S
  pub told : R → S → S
  pub quantities : S → Q

-- ---- one step

abbrev pub plus : ℤ → Option ℕ → ℤ
plus total None = total
plus total (Some n) = total +ℤ pos n

abbrev pub less : ℤ → Option ℕ → ℤ
less total None = total
less total (Some n) = total -ℤ pos n

-- the new value, where there is one
abbrev pub instead : {X : Type 0} → X → Option X → X
instead old None = old
instead old (Some new) = new

-- ---- over a list of records

-- the sum of the amounts that the records give
abbrev pub total : {R : Type 0} → (R → Option ℕ) → List R → ℤ
total amount [] = pos 0
total amount (r ∷ rs) = plus (total amount rs) (amount r)

-- what came in less what went out
abbrev pub balance : {R : Type 0} → (R → Option ℕ) → (R → Option ℕ) → List R → ℤ
balance gained lost rs = total gained rs -ℤ total lost rs

-- the last value given, or else the first one
abbrev pub latest : {R X : Type 0} → X → (R → Option X) → List R → X
latest first given [] = first
latest first given (r ∷ rs) = instead (latest first given rs) (given r)

-- whether any record passes the test
abbrev pub once : {R : Type 0} → (R → Bool) → List R → Bool
once test [] = false
once test (r ∷ rs) = test r || once test rs

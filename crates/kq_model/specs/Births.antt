-- The kqueues that a trace makes, by the place of their birth.
use Rattle.std.specs.Prelude.{ℕ, ◌+◌, List, [], ◌∷◌, ◌++◌, Option, Some, None}
use Rattle.kq_model.specs.Close.{Pair}
use Rattle.kq_model.specs.World.{Planned, Impossible, Possible}

-- a kqueue that was made at a place, with the process and the number that own it
pub record Birth : Type 0 where
  pub place : ℕ
  pub owner : ℕ
  pub number : ℕ

unfoldable pub birth_at : ℕ → Option Pair → List Birth
birth_at place None = []
birth_at place (Some p) = record { place = place; owner = p.pid; number = p.number } ∷ []

unfoldable pub birth_by : ℕ → Planned → List Birth
birth_by place (Impossible why) = []
birth_by place (Possible p) = birth_at place p.born

-- by rising place; the first record stands at `place`
unfoldable pub births_from : ℕ → List Planned → List Birth
births_from place [] = []
births_from place (q ∷ qs) = birth_by place q ++ births_from (place + 1) qs

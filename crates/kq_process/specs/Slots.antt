-- Slots, each with a number, some of them empty: the pairs of the full ones.
use Rattle.std.specs.Prelude.{ℕ, not, Bool, false, List, [], ◌∷◌, Option, Some, None}
use Rattle.kq_model.specs.declared.object.Named.{Named}
use Rattle.kq_model.specs.ProcessPlans.{is_kqueue}

module _ {X : Type 0} where
  abbrev pub entry_of : ℕ → Option X → List (ℕ × X)
  entry_of number None = []
  entry_of number (Some x) = (number, x) ∷ []

  abbrev pub with_entry : ℕ → Option X → List (ℕ × X) → List (ℕ × X)
  with_entry number None es = es
  with_entry number (Some x) es = (number, x) ∷ es

  -- the pairs of the full ones, in their order
  abbrev pub filled : List (ℕ × Option X) → List (ℕ × X)
  filled [] = []
  filled (s ∷ ss) = with_entry s.0 s.1 (filled ss)

  -- what is in a slot, if there is one
  abbrev pub flat : Option (Option X) → Option X
  flat None = None
  flat (Some o) = o

-- it names something that a child of fork(2) has too
abbrev pub is_inherited : Option Named → Bool
is_inherited None = false
is_inherited (Some n) = not (is_kqueue n)

-- Lists that are made of several lists, each of which stands in its order.
use Rattle.std.specs.Prelude.{◌≡◌, ℕ, List, [], ◌∷◌, length, set, sum_by}
use mathlib.Core.Option.{some}
use lib.ListN.{get_elem?}

-- The list is made by taking the first element of one of the lists, again and again, until all of
-- them are empty.
abbrev pub IsMerge : {X : Type 0} → List (List X) → List X → Type 0
IsMerge shares [] = sum_by length shares ≡ 0
IsMerge {X} shares (x ∷ xs) =
    (t : ℕ) × (rest : List X) × (get_elem? shares t ≡ some (x ∷ rest)) × IsMerge (set shares t rest) xs

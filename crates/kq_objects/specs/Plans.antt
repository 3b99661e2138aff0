-- What a plan notes, and whom it tells, in order.
use Rattle.std.specs.Prelude.{List, ◌∷◌, Option, None, Some}

-- the first, if there is one, and the rest
abbrev pub in_turn : {A : Type 0} → Option A → List A → List A
in_turn None rest = rest
in_turn (Some first) rest = first ∷ rest

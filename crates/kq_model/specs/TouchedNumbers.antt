-- The numbers that a record closes, opens or gives to a kqueue. What any other number names stays as it is.
use Rattle.std.specs.Prelude.{List, [], ◌∷◌, ◌++◌, map, Option, Some, None}
use Rattle.kq_model.specs.Close.{Pair}
use Rattle.kq_model.specs.Descriptors.{Descriptor}
use Rattle.kq_model.specs.World.{Plan}

abbrev pub pair_of : Descriptor → Pair
pair_of d = record { pid = d.pid; number = d.number }

unfoldable pub born_numbers : Option Pair → List Pair
born_numbers None = []
born_numbers (Some p) = p ∷ []

abbrev pub touched_numbers : Plan → List Pair
touched_numbers p = p.closed ++ (map pair_of p.opened ++ born_numbers p.born)

-- A table is in rising order in one way only.
use mathlib.Core.Bool.{Bool-set}
use Rattle.std.specs.Prelude.{List, [], ◌∷◌}
use Rattle.std.specs.Coded.{×_prop, Π_prop, →_prop, Unit-prop}
use Rattle.kq_model.specs.Descriptors.{Descriptor, IsRising}

pub IsRising-prop : (table : List Descriptor) → IsProp (IsRising table)
IsRising-prop [] = Unit-prop
IsRising-prop (d ∷ ds) = ×_prop (Π_prop (λ k. Π_prop (λ e. →_prop (Bool-set _ _)))) (IsRising-prop ds)

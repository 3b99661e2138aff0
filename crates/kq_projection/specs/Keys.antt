-- When two keys of timelines are one.
use Rattle.std.specs.Prelude.{◌&&◌, ◌==◌, ℕ, Bool}
use Rattle.kq_model.specs.contracts.object.TargetPartialEq.TheImpl as target_equal
use Rattle.kq_model.specs.declared.object.Target.{Target}

abbrev pub pair_eq : ℕ × ℕ → ℕ × ℕ → Bool
pair_eq a b = (a.0 == b.0) && (a.1 == b.1)

abbrev pub target_key : Target → Target → Bool
target_key = target_equal.eq-value.it

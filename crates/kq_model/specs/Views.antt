-- What a kqueue sees of the world: the views of targets, the descriptors of processes, and the clock.
use Rattle.std.specs.Prelude.{ℕ, Option}
use Rattle.kq_model.specs.declared.object.Target.{Target}
use Rattle.kq_model.specs.declared.object.View.{View}
use Rattle.kq_model.specs.declared.object.Named.{Named}

pub record Views : Type 0 where
  pub view : Target → Option View
  -- by pid and number
  pub descriptor : ℕ → ℕ → Option Named
  -- in ns
  pub now : ℕ

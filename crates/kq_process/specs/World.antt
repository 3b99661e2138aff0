-- The world as callers see it, and what a record does to it.
use Rattle.std.specs.Prelude.{◌≡◌, ℕ}
use Rattle.kq_model.specs.Objects.{counted}
use Rattle.kq_model.specs.World as model
use Rattle.kq_model.specs.World.{Planned}
use Rattle.kq_process.specs.declared.effect.Effect.{Effect}
use Rattle.kq_process.specs.declared.world.World.{World}
use Rattle.kq_process.specs.Effects.{IsEffectOf, world_after}
use Rattle.kq_process.specs.State.{state_of}

abbrev pub world_of : World → model.World counted
world_of w = state_of w.state

-- the place of the last record, 0 before the first
abbrev pub last_of : World → ℕ
last_of w = w.last

-- the effect is that of the plan for the world as it was
abbrev pub IsEffectBy : (model.World counted → Planned) → World → Effect → Type 0
IsEffectBy plan old e = IsEffectOf (plan (world_of old)) e

-- the new world is the one that the plan for the old one leads to
abbrev pub IsNext : ℕ → (model.World counted → Planned) → World → World → Type 0
IsNext place plan old new = world_of new ≡ world_after place (plan (world_of old)) (world_of old)

-- The model's world that the code keeps, whatever the places of its records, and what a record does to it.
use Rattle.std.specs.Prelude.{◌≡◌, ℕ, [], ◌∷◌, ◌++◌, Option}
use Rattle.kq_model.specs.declared.object.Named.{Named}
use Rattle.kq_model.specs.Objects.{counted}
use Rattle.kq_model.specs.World as model
use Rattle.kq_model.specs.World.{Plan, Planned, idle}
use Rattle.kq_model.specs.DescriptorPlans.{closes, close_doings, close_hints}
use Rattle.kq_model.specs.Holding.{hold_doings}
use Rattle.kq_objects.specs.Objects.{objects_of}
use Rattle.kq_process.specs.declared.effect.Effect.{Effect}
use Rattle.kq_process.specs.declared.state.State.{State}
use Rattle.kq_process.specs.Effects.{IsEffectOf, world_after}
use Rattle.kq_process.specs.Processes.{processes_of, table_of}

abbrev pub state_of : State → model.World counted
state_of s = record {
  processes = processes_of s.processes;
  table = table_of s.processes;
  objects = objects_of s.objects;
  now = s.clock;
}

-- the effect is that of the plan for the state as it was
abbrev pub IsEffectBy : (model.World counted → Planned) → State → Effect → Type 0
IsEffectBy plan old e = IsEffectOf (plan (state_of old)) e

-- the new state is the one that the plan for the old one leads to
abbrev pub IsNext : ℕ → (model.World counted → Planned) → State → State → Type 0
IsNext place plan old new = state_of new ≡ world_after place (plan (state_of old)) (state_of old)

-- the number is closed, if it named something before, and names this from now on
abbrev pub sharing : ℕ → ℕ → Option Named → Named → model.World counted → Plan
sharing pid number before n w = record idle {
  closed = closes pid number before;
  opened = record { pid = pid; number = number; named = n } ∷ [];
  doings = close_doings before w.objects ++ hold_doings n;
  hints = close_hints before w.objects;
}

-- What a record did, against its plan.
use Rattle.std.specs.Prelude.{◌≡◌, ℕ, List, [], map, Some, Result, Ok, Err, IsOk}
use Rattle.kq_model.specs.declared.change.Change.{Change}
use Rattle.kq_model.specs.declared.object.Named.{Named}
use Rattle.kq_model.specs.declared.why.Why.{Why}
use Rattle.kq_model.specs.Close.{Pair}
use Rattle.kq_model.specs.Objects.{Objects, counted, listed}
use Rattle.kq_model.specs.Targets.{Posted}
use Rattle.kq_model.specs.World.{World, Plan, Planned, Impossible, Possible, idle, carried_out}
use Rattle.kq_process.specs.declared.effect.Effect.{Effect}
use Rattle.kq_process.specs.declared.processes.Processes.{Processes}
use Rattle.kq_process.specs.Processes.{processes_of, table_of}

-- the world of these processes, objects and clock
abbrev pub world_with : Processes → Objects counted → ℕ → World counted
world_with p o now = record { processes = processes_of p; table = table_of p; objects = o; now = now }

-- an impossible record changes nothing
abbrev pub world_after : ℕ → Planned → World counted → World counted
world_after place (Impossible why) w = w
world_after place (Possible p) w = carried_out place p w

-- the same, where each object's records are kept
abbrev pub listed_after : ℕ → Planned → World listed → World listed
listed_after place (Impossible why) w = w
listed_after place (Possible p) w = carried_out place p w

-- what is planned for what a descriptor names, or the reason why there is none
abbrev pub planned_on : (Named → Planned) → Result Named Why → Planned
planned_on planned (Ok n) = planned n
planned_on planned (Err why) = Impossible why

abbrev pub pair_of : ℕ × ℕ → Pair
pair_of p = record { pid = p.0; number = p.1 }

abbrev pub pairs_in : List (ℕ × ℕ) → List Pair
pairs_in ps = map pair_of ps

-- the record can be carried out; memory is wanted for no other
abbrev pub IsPossible : Planned → Type 0
IsPossible (Impossible why) = ⊥
IsPossible (Possible p) = Unit {0}

-- nothing closed, no hints, and the reason
pub record IsRefused (why : Why) (e : Effect) : Type 0 where
  pub verdict : e.verdict ≡ Err why
  pub closed : e.closed ≡ []
  pub hints : e.hints ≡ []

-- the closes and the hints of the plan, in order
pub record IsDone (p : Plan) (e : Effect) : Type 0 where
  pub verdict : IsOk e.verdict
  pub closed : pairs_in e.closed ≡ p.closed
  pub hints : e.hints ≡ p.hints

abbrev pub IsEffectOf : Planned → Effect → Type 0
IsEffectOf (Impossible why) e = IsRefused why e
IsEffectOf (Possible p) e = IsDone p e

-- nothing was closed, and just these hints are given
abbrev pub Tells : List Posted → Effect → Type 0
Tells hints e = (p : Plan) → p.closed ≡ [] → p.hints ≡ hints → IsDone p e

-- ---- records about processes alone, whatever the objects and the clock are

-- the effect is that of the plan
abbrev pub IsToldBy : (World counted → Planned) → Processes → Effect → Type 0
IsToldBy plan old e = (o : Objects counted) (now : ℕ) → IsEffectOf (plan (world_with old o now)) e

-- the record can be carried out
abbrev pub IsPossibleBy : (World counted → Planned) → Processes → Type 0
IsPossibleBy plan old = (o : Objects counted) (now : ℕ) → IsPossible (plan (world_with old o now))

-- the new processes are those that the plan leads to
abbrev pub IsAfter : ℕ → (World counted → Planned) → Processes → Processes → Type 0
IsAfter place plan old new =
    (o : Objects counted) (now : ℕ) → world_with new o now
    ≡ world_after place (plan (world_with old o now)) (world_with old o now)

abbrev pub IsUnchanged : Processes → Processes → Type 0
IsUnchanged old new = (processes_of new ≡ processes_of old) × (table_of new ≡ table_of old)

-- ---- kevent calls

abbrev pub calling : ℕ → List Change → ℕ → Plan
calling kqueue changes room = record idle { call = Some (record { kqueue = kqueue; changes = changes; room = room }) }

-- the call is on this kqueue, or impossible for this reason
abbrev pub IsCallOf : Planned → List Change → ℕ → Result ℕ Why → Type 0
IsCallOf planned changes room (Ok kqueue) = planned ≡ Possible (calling kqueue changes room)
IsCallOf planned changes room (Err why) = planned ≡ Impossible why

abbrev pub IsCallBy : (World counted → Planned) → Processes → List Change → ℕ → Result ℕ Why → Type 0
IsCallBy plan p changes room r =
    (o : Objects counted) (now : ℕ) → IsCallOf (plan (world_with p o now)) changes room r

use Rattle.std.proofs.Common.{◌≡◌, ◌+◌, ◌++◌, List, take}
use Rattle.kq_model.specs.declared.event.Event.{Event}
use Rattle.kq_model.specs.Objects.{counted}
use Rattle.kq_model.specs.World.{empty_world}
use Rattle.kq_process.specs.World.{last_of, world_of}
use Rattle.kq_shares.specs.Births.{births_after}
use Rattle.kq_shares.proofs.births.births_in.Given as goal

-- with those of what comes behind they are those of the whole
abbrev pub invariant-loop-event : goal.invariant-loop-event
invariant-loop-event l =
    (l.place ≡ l.event-index) × (last_of l.world ≡ l.event-index)
    × ((later : List Event) → l.births.items ++ births_after (l.event-index + 1) (world_of l.world) later
    ≡ births_after 1 (empty_world counted) (take l.event-index l.events ++ later))

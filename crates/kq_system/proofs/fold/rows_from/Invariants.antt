use Rattle.std.proofs.Common.{◌≡◌, ◌+◌, ◌++◌, drop}
use Rattle.kq_model.specs.System.{rows_after}
use Rattle.kq_system.specs.SystemState.{system_of}
use Rattle.kq_system.proofs.fold.rows_from.Given as goal

abbrev pub invariant-loop-event : goal.invariant-loop-event
invariant-loop-event l =
    (l.rows.items ++ rows_after (l.event-index + 1) (system_of l.system)
    (drop l.event-index l.event-items) ≡ rows_after 1 (system_of l.initial.system) l.event-items)
    × (l.system.applied ≡ l.event-index)

use Rattle.std.proofs.Common.{◌∙◌}
use Rattle.kq_process.proofs.Filled.{absent-filled, found-filled, none-without, unset-filled}
use Rattle.kq_process.proofs.descriptors.Descriptors.remove.Goals as goal

pub returns-in-Ok-clause-removed : goal.returns-in-Ok-clause-removed
returns-in-Ok-clause-removed c =
    let place = rw c.deref.ensures.value at c.in-Ok.ensures in
    rw (← c.self.view_is)
    (found-filled c.args.number c.self.inside.slots.items c.in-Ok.index c.self.invariant place c.index.result.now c.index.ensures)

pub returns-in-Ok-clause-rest : goal.returns-in-Ok-clause-rest
returns-in-Ok-clause-rest c =
    let place = rw c.deref.ensures.value at c.in-Ok.ensures in
    rw (← c.self.view_is)
    (c.count_empty.ensures ∙ unset-filled c.args.number c.self.inside.slots.items c.in-Ok.index c.self.invariant place)

pub returns-in-Err-clause-removed : goal.returns-in-Err-clause-removed
returns-in-Err-clause-removed c =
    let gap = rw c.deref.ensures.value at c.in-Err.ensures in
    rw (← c.self.view_is) (absent-filled c.args.number c.self.inside.slots.items _ c.self.invariant gap)

pub returns-in-Err-clause-rest : goal.returns-in-Err-clause-rest
returns-in-Err-clause-rest c =
    let gap = rw c.deref.ensures.value at c.in-Err.ensures in
    rw (← c.self.view_is) (none-without c.args.number c.self.inside.slots.items _ c.self.invariant gap)

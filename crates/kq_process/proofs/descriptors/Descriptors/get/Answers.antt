use Rattle.kq_process.proofs.Filled.{absent-filled, filled-rises, found-filled}
use Rattle.kq_process.proofs.descriptors.Descriptors.get.Goals as goal

pub returns-in-Ok-clause-found : goal.returns-in-Ok-clause-found
returns-in-Ok-clause-found c =
    let place = rw c.deref.ensures.value at c.in-Ok.ensures in
    rw (← c.self.view_is)
    (found-filled c.args.number c.self.inside.slots.items c.in-Ok.index c.self.invariant place c.index.result.now c.index.ensures)

pub returns-in-Ok-clause-rising : goal.returns-in-Ok-clause-rising
returns-in-Ok-clause-rising c = rw (← c.self.view_is) (filled-rises _ c.self.invariant)

pub returns-in-Err-clause-found : goal.returns-in-Err-clause-found
returns-in-Err-clause-found c =
    let gap = rw c.deref.ensures.value at c.in-Err.ensures in
    rw (← c.self.view_is) (absent-filled c.args.number c.self.inside.slots.items _ c.self.invariant gap)

pub returns-in-Err-clause-rising : goal.returns-in-Err-clause-rising
returns-in-Err-clause-rising c = rw (← c.self.view_is) (filled-rises _ c.self.invariant)

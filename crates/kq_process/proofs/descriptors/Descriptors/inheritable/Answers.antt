use Rattle.kq_process.proofs.Filled.{filled-inherited, filled-rises}
use Rattle.kq_process.proofs.Places.{filter-rises}
use Rattle.kq_process.proofs.descriptors.Descriptors.inheritable.Goals as goal

pub returns-in_err-inherited-clause-rising : goal.returns-in_err-inherited-clause-rising
returns-in_err-inherited-clause-rising c = rw (← c.self.view_is) (filled-rises _ c.self.invariant)

pub invariant_of-result : goal.invariant_of-result
invariant_of-result c =
    rw (c.in_ok-inherited.ensures, c.deref.ensures.value) (filter-rises _ c.self.inside.slots.items c.self.invariant)

pub returns-clause-copies : goal.returns-clause-copies
returns-clause-copies c =
    rw (← c.self.view_is, c.in_ok-inherited.ensures, c.deref.ensures.value) (filled-inherited c.self.inside.slots.items)

pub returns-clause-rising : goal.returns-clause-rising
returns-clause-rising c = rw (← c.self.view_is) (filled-rises _ c.self.invariant)

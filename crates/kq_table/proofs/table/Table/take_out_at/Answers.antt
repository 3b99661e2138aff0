use Rattle.std.proofs.Common.{sym}
use Rattle.kq_table.specs.Rows.{without_waiting}
use Rattle.kq_table.proofs.KeptLaws.{indexed, IsSeen, seen, rows-seen, queue-seen, missed-without}
use Rattle.kq_table.proofs.MoveLaws.{taken-out}
use Rattle.kq_table.proofs.NodeLaws.{row-some}
use Rattle.kq_table.proofs.table.Table.take_out_at.Given.{Over}
use Rattle.kq_table.proofs.table.Table.take_out_at.Goals.{After-dequeue}
use Rattle.kq_table.proofs.table.Table.take_out_at.Goals as goal

pub near-requires : goal.near-requires
near-requires g c = indexed c.self.invariant

pub returns-in_default-clause-queue : goal.returns-in_default-clause-queue
returns-in_default-clause-queue g c =
    let table = seen g.met.T.Key.Eq.laws g.met.T.Target.Eq.laws g.met.T.Keyed.one_key c.self.invariant c.self.view_is in
    sym (missed-without table c.in_default.ensures)

pub dequeue-requires : goal.dequeue-requires
dequeue-requires g c = row-some _ c.in-Some.ensures.row c.in-Some.ensures.here

taken : (g : Over) (c : After-dequeue g)
    → IsSeen g.T.Key.PartialEq.eq g.T.Target.PartialEq.eq g.T.Keyed.key_of g.T.Keyed.target_of c.dequeue.new.nodes c.self.inside.index c.self.inside.targets c.self.inside.order c.dequeue.new.queue c.dequeue.new.waiting
    c.self.inside.limit c.self.inside.births (record c.args.self.now { queue = without_waiting g.T.Key.PartialEq.eq c.args.key c.args.self.now.queue })
taken g c =
    let table = seen g.met.T.Key.Eq.laws g.met.T.Target.Eq.laws g.met.T.Keyed.one_key c.self.invariant c.self.view_is in
    taken-out table c.in-Some.ensures c.dequeue.new.nodes c.dequeue.new.queue c.dequeue.new.waiting c.dequeue.ensures.same
    (c.dequeue.ensures.queued table.kept.waits table.kept.queued)

pub invariant_of-self : goal.invariant_of-self
invariant_of-self g c = (taken g c).kept

pub returns-clause-rows : goal.returns-clause-rows
returns-clause-rows g c = rows-seen (taken g c)

pub returns-clause-queue : goal.returns-clause-queue
returns-clause-queue g c = queue-seen (taken g c)

pub returns-clause-room : goal.returns-clause-room
returns-clause-room g c = (taken g c).room

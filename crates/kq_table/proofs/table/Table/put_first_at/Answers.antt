use Rattle.std.proofs.Common.{is_some, sym, ap, ◌∙◌}
use Rattle.kq_table.specs.Rows.{with_first}
use Rattle.kq_table.proofs.KeptLaws.{indexed, IsSeen, seen, rows-seen, queue-seen, missed-waits, stands-waits}
use Rattle.kq_table.proofs.MoveLaws.{put-first}
use Rattle.kq_table.proofs.NodeLaws.{row-some}
use Rattle.kq_table.proofs.QueueLaws.{with_first-absent}
use Rattle.kq_table.proofs.table.Table.put_first_at.Given.{Over}
use Rattle.kq_table.proofs.table.Table.put_first_at.Goals.{After-requeue_first}
use Rattle.kq_table.proofs.table.Table.put_first_at.Goals as goal

pub sought-requires : goal.sought-requires
sought-requires g c = indexed c.self.invariant

pub returns-in_default-clause-queue : goal.returns-in_default-clause-queue
returns-in_default-clause-queue g c =
    let table = seen g.met.T.Key.Eq.laws g.met.T.Target.Eq.laws g.met.T.Keyed.one_key c.self.invariant c.self.view_is in
    sym (with_first-absent g.T.Key.PartialEq.eq c.args.key c.args.self.now.queue (missed-waits table c.in_default.ensures))

pub returns-else-is_some-clause-queue : goal.returns-else-is_some-clause-queue
returns-else-is_some-clause-queue g c =
    let table = seen g.met.T.Key.Eq.laws g.met.T.Target.Eq.laws g.met.T.Keyed.one_key c.self.invariant c.self.view_is in
    sym (with_first-absent g.T.Key.PartialEq.eq c.args.key c.args.self.now.queue
    (sym (stands-waits table c.in-Some.ensures) ∙ ap is_some (sym c.links_at.ensures) ∙ sym c.if-is_some.ensures))

pub requeue_first-requires : goal.requeue_first-requires
requeue_first-requires g c = row-some _ c.in-Some.ensures.row c.in-Some.ensures.here

moved : (g : Over) (c : After-requeue_first g)
    → IsSeen g.T.Key.PartialEq.eq g.T.Target.PartialEq.eq g.T.Keyed.key_of g.T.Keyed.target_of c.requeue_first.new.nodes c.self.inside.index c.self.inside.targets c.self.inside.order c.requeue_first.new.ends c.self.inside.waiting
    c.self.inside.limit c.self.inside.births (record c.args.self.now { queue = with_first g.T.Key.PartialEq.eq c.args.key c.args.self.now.queue })
moved g c =
    let table = seen g.met.T.Key.Eq.laws g.met.T.Target.Eq.laws g.met.T.Keyed.one_key c.self.invariant c.self.view_is in
    let waits = ap is_some (sym c.links_at.ensures) ∙ sym c.if-is_some.ensures in
    put-first table c.in-Some.ensures c.requeue_first.new.nodes c.requeue_first.new.ends c.self.inside.waiting c.requeue_first.ensures.same waits
    (c.requeue_first.ensures.queued table.kept.waits c.self.inside.waiting (table.kept.queued.whole c.in-Some.slot waits) table.kept.queued)

pub invariant_of-self : goal.invariant_of-self
invariant_of-self g c = (moved g c).kept

pub returns-then-is_some-clause-rows : goal.returns-then-is_some-clause-rows
returns-then-is_some-clause-rows g c = rows-seen (moved g c)

pub returns-then-is_some-clause-queue : goal.returns-then-is_some-clause-queue
returns-then-is_some-clause-queue g c = queue-seen (moved g c)

pub returns-then-is_some-clause-room : goal.returns-then-is_some-clause-room
returns-then-is_some-clause-room g c = (moved g c).room

use Rattle.std.proofs.Common.{is_some, sym, ap, ◌∙◌, arith}
use Rattle.kq_table.specs.Rows.{put_in}
use Rattle.kq_table.proofs.KeptLaws.{indexed, waits-fewer, IsSeen, seen, rows-seen, queue-seen, missed-put_in, there, stands-row, stands-waits, stands-out}
use Rattle.kq_table.proofs.MoveLaws.{put-in}
use Rattle.kq_table.proofs.NodeLaws.{row-some}
use Rattle.kq_table.proofs.QueueLaws.{put_in-waiting}
use Rattle.kq_table.proofs.table.Table.put_in_at.Given.{Over}
use Rattle.kq_table.proofs.table.Table.put_in_at.Goals.{After-enqueue}
use Rattle.kq_table.proofs.table.Table.put_in_at.Goals as goal

pub near-requires : goal.near-requires
near-requires g c = indexed c.self.invariant

pub returns-in_default-clause-queue : goal.returns-in_default-clause-queue
returns-in_default-clause-queue g c =
    let table = seen g.met.T.Key.Eq.laws g.met.T.Target.Eq.laws g.met.T.Keyed.one_key c.self.invariant c.self.view_is in
    sym (missed-put_in table c.in_default.ensures)

pub returns-then-is_some-clause-queue : goal.returns-then-is_some-clause-queue
returns-then-is_some-clause-queue g c =
    let table = seen g.met.T.Key.Eq.laws g.met.T.Target.Eq.laws g.met.T.Keyed.one_key c.self.invariant c.self.view_is in
    let at = c.in-Some.ensures in
    sym (put_in-waiting g.T.Key.PartialEq.eq g.T.Keyed.key_of c.args.key c.args.self.now.rows c.args.self.now.queue at.row (stands-row table at)
    (sym (stands-waits table at) ∙ ap is_some (sym c.links_at.ensures) ∙ sym c.if-is_some.ensures))

pub enqueue-requires-clause-here : goal.enqueue-requires-clause-here
enqueue-requires-clause-here g c = row-some _ c.in-Some.ensures.row c.in-Some.ensures.here

pub enqueue-requires-clause-fits : goal.enqueue-requires-clause-fits
enqueue-requires-clause-fits g c =
    let table = seen g.met.T.Key.Eq.laws g.met.T.Target.Eq.laws g.met.T.Keyed.one_key c.self.invariant c.self.view_is in
    let fewer = waits-fewer table c.in-Some.slot (there table c.in-Some.ensures)
    (stands-out table c.in-Some.ensures (ap is_some (sym c.links_at.ensures) ∙ sym c.if-is_some.ensures)) in
    let waits = table.kept.queued.counted in
    let rows = table.kept.room.counted in
    let within = table.kept.room.within in
    omega arith

put : (g : Over) (c : After-enqueue g)
    → IsSeen g.T.Key.PartialEq.eq g.T.Target.PartialEq.eq g.T.Keyed.key_of g.T.Keyed.target_of c.enqueue.new.nodes c.self.inside.index c.self.inside.targets c.self.inside.order c.enqueue.new.queue c.enqueue.new.waiting
    c.self.inside.limit c.self.inside.births (record c.args.self.now { queue = put_in g.T.Key.PartialEq.eq g.T.Keyed.key_of c.args.key c.args.self.now.rows c.args.self.now.queue })
put g c =
    let table = seen g.met.T.Key.Eq.laws g.met.T.Target.Eq.laws g.met.T.Keyed.one_key c.self.invariant c.self.view_is in
    let out = ap is_some (sym c.links_at.ensures) ∙ sym c.if-is_some.ensures in
    put-in table c.in-Some.ensures c.enqueue.new.nodes c.enqueue.new.queue c.enqueue.new.waiting c.enqueue.ensures.same out
    (c.enqueue.ensures.queued table.kept.waits (stands-out table c.in-Some.ensures out) table.kept.queued)

pub invariant_of-self : goal.invariant_of-self
invariant_of-self g c = (put g c).kept

pub returns-clause-rows : goal.returns-clause-rows
returns-clause-rows g c = rows-seen (put g c)

pub returns-clause-queue : goal.returns-clause-queue
returns-clause-queue g c = queue-seen (put g c)

pub returns-clause-room : goal.returns-clause-room
returns-clause-room g c = (put g c).room

use Rattle.std.proofs.Common.{◌+◌, ℕ, Option, None, sym, ap, ◌∙◌}
use Rattle.kq_table.specs.Rows.{without_row, without_waiting}
use Rattle.kq_table.specs.Threads.{row_of}
use Rattle.kq_table.proofs.KeptLaws.{indexed, IsSeen, seen, rows-seen, queue-seen, missed-row, missed-without_row, missed-without, stands-row}
use Rattle.kq_table.proofs.MoveLaws.{removed}
use Rattle.kq_table.proofs.NodeLaws.{get-updated, row-some}
use Rattle.kq_table.proofs.table.Table.remove_at.Given.{Over}
use Rattle.kq_table.proofs.table.Table.remove_at.Goals.{After-remove}
use Rattle.kq_table.proofs.table.Table.remove_at.Goals as goal

pub near-requires : goal.near-requires
near-requires g c = indexed c.self.invariant

pub returns-in_default-clause-removed : goal.returns-in_default-clause-removed
returns-in_default-clause-removed g c =
    let table = seen g.met.T.Key.Eq.laws g.met.T.Target.Eq.laws g.met.T.Keyed.one_key c.self.invariant c.self.view_is in
    sym (missed-row table c.in_default.ensures)

pub returns-in_default-clause-rows : goal.returns-in_default-clause-rows
returns-in_default-clause-rows g c =
    let table = seen g.met.T.Key.Eq.laws g.met.T.Target.Eq.laws g.met.T.Keyed.one_key c.self.invariant c.self.view_is in
    sym (missed-without_row table c.in_default.ensures)

pub returns-in_default-clause-queue : goal.returns-in_default-clause-queue
returns-in_default-clause-queue g c =
    let table = seen g.met.T.Key.Eq.laws g.met.T.Target.Eq.laws g.met.T.Keyed.one_key c.self.invariant c.self.view_is in
    sym (missed-without table c.in_default.ensures)

pub dequeue-requires : goal.dequeue-requires
dequeue-requires g c = row-some _ c.in-Some.ensures.row c.in-Some.ensures.here

pub remove-requires : goal.remove-requires
remove-requires g c =
    row-some _ c.in-Some.ensures.row (ap (λ (f : ℕ → Option g.row.T.Denot). f c.in-Some.slot) (c.unlink.ensures.same.rows ∙ c.withdraw.ensures.same.rows ∙ c.dequeue.ensures.same.rows) ∙ c.in-Some.ensures.here)

gone : (g : Over) (c : After-remove g)
    → IsSeen g.T.Key.PartialEq.eq g.T.Target.PartialEq.eq g.T.Keyed.key_of g.T.Keyed.target_of c.remove.new.self c.self.inside.index c.withdraw.new.targets c.unlink.new.ends c.dequeue.new.queue c.dequeue.new.waiting
    c.self.inside.limit c.self.inside.births
    (record {
      rows = without_row g.T.Key.PartialEq.eq g.T.Keyed.key_of c.args.key c.args.self.now.rows;
      queue = without_waiting g.T.Key.PartialEq.eq c.args.key c.args.self.now.queue;
      room = c.args.self.now.room + 1;
    })
gone g c =
    let table = seen g.met.T.Key.Eq.laws g.met.T.Target.Eq.laws g.met.T.Keyed.one_key c.self.invariant c.self.view_is in
    removed table c.in-Some.ensures c.dequeue.new.nodes c.withdraw.new.nodes c.unlink.new.nodes c.remove.new.self c.dequeue.new.queue c.unlink.new.ends c.dequeue.new.waiting c.withdraw.new.targets
    c.dequeue.ensures.same (c.dequeue.ensures.queued table.kept.waits table.kept.queued)
    c.withdraw.ensures.same c.withdraw.ensures.watched c.withdraw.ensures.room
    c.unlink.ensures.same c.unlink.ensures.links c.unlink.ensures.ends
    (get-updated c.unlink.new.nodes c.remove.new.self c.in-Some.slot None c.remove.ensures.updates) c.remove.ensures.len c.remove.ensures.capacity

pub invariant_of-self : goal.invariant_of-self
invariant_of-self g c = (gone g c).kept

pub returns-clause-removed : goal.returns-clause-removed
returns-clause-removed g c =
    let table = seen g.met.T.Key.Eq.laws g.met.T.Target.Eq.laws g.met.T.Keyed.one_key c.self.invariant c.self.view_is in
    ap row_of (sym c.remove.ensures.value)
    ∙ ap (λ (f : ℕ → Option g.row.T.Denot). f c.in-Some.slot) (c.unlink.ensures.same.rows ∙ c.withdraw.ensures.same.rows ∙ c.dequeue.ensures.same.rows)
    ∙ c.in-Some.ensures.here ∙ sym (stands-row table c.in-Some.ensures)

pub returns-clause-rows : goal.returns-clause-rows
returns-clause-rows g c = rows-seen (gone g c)

pub returns-clause-queue : goal.returns-clause-queue
returns-clause-queue g c = queue-seen (gone g c)

pub returns-clause-room : goal.returns-clause-room
returns-clause-room g c = (gone g c).room

use Rattle.std.proofs.Common.{sym, ap, ◌∙◌}
use Rattle.std.specs.Option.{option_eq}
use Rattle.kq_table.specs.Rows.{with_row}
use Rattle.kq_table.proofs.KeptLaws.{IsSeen, seen, rows-seen, queue-seen}
use Rattle.kq_table.proofs.ModifyLaws.{modified-alike}
use Rattle.kq_table.proofs.NodeLaws.{row-some}
use Rattle.kq_table.proofs.table.Table.modify_there.Given.{Over}
use Rattle.kq_table.proofs.table.Table.modify_there.Goals.{After-set_row}
use Rattle.kq_table.proofs.table.Table.modify_there.Goals as goal

pub set_row-requires : goal.set_row-requires
set_row-requires g c = row-some _ c.in-Some.ensures.row c.in-Some.ensures.here

-- it watches what the one before it did
alike : (g : Over) (c : After-set_row g)
    → IsSeen g.T.Key.PartialEq.eq g.T.Target.PartialEq.eq g.T.Keyed.key_of g.T.Keyed.target_of c.set_row.new.nodes c.self.inside.index c.self.inside.targets c.self.inside.order c.self.inside.queue c.self.inside.waiting
    c.self.inside.limit c.self.inside.births (record c.args.self.now { rows = with_row g.T.Key.PartialEq.eq g.T.Keyed.key_of c.args.row.now c.args.self.now.rows })
alike g c =
    let table = seen g.met.T.Key.Eq.laws g.met.T.Target.Eq.laws g.met.T.Keyed.one_key c.self.invariant c.self.view_is in
    let set = c.set_row.ensures in
    modified-alike table c.args.row.now c.key.ensures c.in-Some.ensures c.set_row.new.nodes set.rows set.births set.links set.len set.capacity
    c.target_at-target.result c.target_at-target.ensures (ap (option_eq g.T.Target.PartialEq.eq c.target_at-target.result) (sym c.target.ensures) ∙ sym c.eq.ensures ∙ c.if-eq.true)

pub invariant_of-self : goal.invariant_of-self
invariant_of-self g c = (alike g c).kept

pub returns-then-eq-clause-rows : goal.returns-then-eq-clause-rows
returns-then-eq-clause-rows g c = rows-seen (alike g c)

pub returns-then-eq-clause-queue : goal.returns-then-eq-clause-queue
returns-then-eq-clause-queue g c = queue-seen (alike g c)

pub returns-then-eq-clause-room : goal.returns-then-eq-clause-room
returns-then-eq-clause-room g c = (alike g c).room

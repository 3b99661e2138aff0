use Rattle.std.proofs.Common.{sym, ap, ◌∙◌, arith}
use Rattle.std.specs.Option.{option_eq}
use Rattle.kq_table.specs.Rows.{with_row}
use Rattle.kq_table.proofs.KeptLaws.{indexed, IsSeen, seen, rows-seen, queue-seen, missed-with_row}
use Rattle.kq_table.proofs.ModifyLaws.{modified-anew, modified-alike}
use Rattle.kq_table.proofs.NodeLaws.{row-some}
use Rattle.kq_table.proofs.table.Table.modify_at.Given.{Over}
use Rattle.kq_table.proofs.table.Table.modify_at.Goals.{After-enter_all, Then-eq}
use Rattle.kq_table.proofs.table.Table.modify_at.Goals as goal

pub near-requires : goal.near-requires
near-requires g c = indexed c.self.invariant

pub returns-in_default-clause-rows : goal.returns-in_default-clause-rows
returns-in_default-clause-rows g c =
    let table = seen g.met.T.Key.Eq.laws g.met.T.Target.Eq.laws g.met.T.Keyed.one_key c.self.invariant c.self.view_is in
    sym (missed-with_row table c.in_default.ensures c.args.row c.key.ensures)

pub set_row-requires : goal.set_row-requires
set_row-requires g c = row-some _ c.in-Some.ensures.row c.in-Some.ensures.here

pub enter_all-requires-clause-keys : goal.enter_all-requires-clause-keys
enter_all-requires-clause-keys g c =
    let room = c.self.invariant.room in
    let len = c.set_row.ensures.len in
    omega arith

pub enter_all-requires-clause-targets : goal.enter_all-requires-clause-targets
enter_all-requires-clause-targets g c =
    let room = c.self.invariant.room in
    let len = c.set_row.ensures.len in
    omega arith

-- its targets are linked anew
anew : (g : Over) (c : After-enter_all g)
    → IsSeen g.T.Key.PartialEq.eq g.T.Target.PartialEq.eq g.T.Keyed.key_of g.T.Keyed.target_of c.enter_all.new.nodes c.enter_all.new.index c.enter_all.new.targets c.self.inside.order c.self.inside.queue c.self.inside.waiting
    c.self.inside.limit c.self.inside.births (record c.args.self.now { rows = with_row g.T.Key.PartialEq.eq g.T.Keyed.key_of c.args.row c.args.self.now.rows })
anew g c =
    let table = seen g.met.T.Key.Eq.laws g.met.T.Target.Eq.laws g.met.T.Keyed.one_key c.self.invariant c.self.view_is in
    let set = c.set_row.ensures in
    modified-anew table c.args.row c.key.ensures c.in-Some.ensures c.set_row.new.nodes set.rows set.births set.links set.len set.capacity c.enter_all.new.nodes c.enter_all.new.index c.enter_all.new.targets
    c.enter_all.ensures.same c.enter_all.ensures.keys_room c.enter_all.ensures.targets_room c.enter_all.ensures.entered

-- it watches what the one before it did
alike : (g : Over) (c : Then-eq g)
    → IsSeen g.T.Key.PartialEq.eq g.T.Target.PartialEq.eq g.T.Keyed.key_of g.T.Keyed.target_of c.set_row.new.nodes c.self.inside.index c.self.inside.targets c.self.inside.order c.self.inside.queue c.self.inside.waiting
    c.self.inside.limit c.self.inside.births (record c.args.self.now { rows = with_row g.T.Key.PartialEq.eq g.T.Keyed.key_of c.args.row c.args.self.now.rows })
alike g c =
    let table = seen g.met.T.Key.Eq.laws g.met.T.Target.Eq.laws g.met.T.Keyed.one_key c.self.invariant c.self.view_is in
    let set = c.set_row.ensures in
    modified-alike table c.args.row c.key.ensures c.in-Some.ensures c.set_row.new.nodes set.rows set.births set.links set.len set.capacity
    c.target_at-target.result c.target_at-target.ensures (ap (option_eq g.T.Target.PartialEq.eq c.target_at-target.result) (sym c.target.ensures) ∙ sym c.eq.ensures ∙ c.if-eq.true)

pub invariant_of-self-2 : goal.invariant_of-self-2
invariant_of-self-2 g c = (anew g c).kept

pub returns-clause-rows : goal.returns-clause-rows
returns-clause-rows g c = rows-seen (anew g c)

pub returns-clause-queue : goal.returns-clause-queue
returns-clause-queue g c = queue-seen (anew g c)

pub returns-clause-room : goal.returns-clause-room
returns-clause-room g c = (anew g c).room

pub invariant_of-self : goal.invariant_of-self
invariant_of-self g c = (alike g c).kept

pub returns-then-eq-clause-rows : goal.returns-then-eq-clause-rows
returns-then-eq-clause-rows g c = rows-seen (alike g c)

pub returns-then-eq-clause-queue : goal.returns-then-eq-clause-queue
returns-then-eq-clause-queue g c = queue-seen (alike g c)

pub returns-then-eq-clause-room : goal.returns-then-eq-clause-room
returns-then-eq-clause-room g c = (alike g c).room

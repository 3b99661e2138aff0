use Rattle.std.proofs.Common.{sym, ◌∙◌}
use Rattle.kq_table.proofs.KeptLaws.{indexed, seen, missed-after, stands-after}
use Rattle.kq_table.proofs.table.Table.next_after_at.Goals as goal

pub near-requires : goal.near-requires
near-requires g c = indexed c.self.invariant

pub returns-in_default : goal.returns-in_default
returns-in_default g c =
    let table = seen g.met.T.Key.Eq.laws g.met.T.Target.Eq.laws g.met.T.Keyed.one_key c.self.invariant c.self.view_is in
    sym (missed-after table c.in_default.ensures)

pub returns : goal.returns
returns g c =
    let table = seen g.met.T.Key.Eq.laws g.met.T.Target.Eq.laws g.met.T.Keyed.one_key c.self.invariant c.self.view_is in
    c.row_at.ensures ∙ stands-after table c.in-Some.ensures c.slot_behind.result c.slot_behind.ensures

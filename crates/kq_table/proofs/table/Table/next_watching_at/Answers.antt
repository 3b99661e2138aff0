use Rattle.std.proofs.Common.{sym, ◌∙◌}
use Rattle.kq_table.proofs.KeptLaws.{indexed, seen}
use Rattle.kq_table.proofs.WatchLaws.{missed-next, stands-last, stands-next}
use Rattle.kq_table.proofs.table.Table.next_watching_at.Goals as goal

pub near-requires : goal.near-requires
near-requires g c = indexed c.self.invariant

pub returns-in_default : goal.returns-in_default
returns-in_default g c =
    let table = seen g.met.T.Key.Eq.laws g.met.T.Target.Eq.laws g.met.T.Keyed.one_key c.self.invariant c.self.view_is in
    sym (missed-next table c.in_default.ensures)

pub returns-in_default-target_at : goal.returns-in_default-target_at
returns-in_default-target_at g c =
    let table = seen g.met.T.Key.Eq.laws g.met.T.Target.Eq.laws g.met.T.Keyed.one_key c.self.invariant c.self.view_is in
    sym (stands-last table c.in-Some.ensures c.in_default-target_at.ensures)

pub returns : goal.returns
returns g c =
    let table = seen g.met.T.Key.Eq.laws g.met.T.Target.Eq.laws g.met.T.Keyed.one_key c.self.invariant c.self.view_is in
    c.watcher_at.ensures
    ∙ stands-next table c.in-Some.ensures _ c.in-Some-target_at.ensures c.slot_behind.result c.slot_behind.ensures

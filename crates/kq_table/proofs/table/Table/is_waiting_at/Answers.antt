use Rattle.std.proofs.Common.{is_some, sym, ap, ◌∙◌}
use Rattle.kq_table.proofs.KeptLaws.{indexed, seen, missed-waits, stands-waits}
use Rattle.kq_table.proofs.table.Table.is_waiting_at.Goals as goal

pub near-requires : goal.near-requires
near-requires g c = indexed c.self.invariant

pub returns-in-None : goal.returns-in-None
returns-in-None g c =
    let table = seen g.met.T.Key.Eq.laws g.met.T.Target.Eq.laws g.met.T.Keyed.one_key c.self.invariant c.self.view_is in
    sym (missed-waits table c.in-None.ensures)

pub returns-in-Some : goal.returns-in-Some
returns-in-Some g c =
    let table = seen g.met.T.Key.Eq.laws g.met.T.Target.Eq.laws g.met.T.Keyed.one_key c.self.invariant c.self.view_is in
    c.is_some.ensures ∙ ap is_some c.links_at.ensures ∙ stands-waits table c.in-Some.ensures

use Rattle.std.proofs.Common.{◌∙◌}
use Rattle.kq_table.proofs.KeptLaws.{seen, first-waiting, own_keys, once, have_rows}
use Rattle.kq_table.proofs.table.Table.front.Goals as goal

pub returns-clause-front : goal.returns-clause-front
returns-clause-front g c =
    let table = seen g.met.T.Key.Eq.laws g.met.T.Target.Eq.laws g.met.T.Keyed.one_key c.self.invariant c.self.view_is in
    c.key_at.ensures ∙ first-waiting table

pub returns-clause-own_keys : goal.returns-clause-own_keys
returns-clause-own_keys g c = own_keys (seen g.met.T.Key.Eq.laws g.met.T.Target.Eq.laws g.met.T.Keyed.one_key c.self.invariant c.self.view_is)

pub returns-clause-once : goal.returns-clause-once
returns-clause-once g c = once (seen g.met.T.Key.Eq.laws g.met.T.Target.Eq.laws g.met.T.Keyed.one_key c.self.invariant c.self.view_is)

pub returns-clause-have_rows : goal.returns-clause-have_rows
returns-clause-have_rows g c = have_rows (seen g.met.T.Key.Eq.laws g.met.T.Target.Eq.laws g.met.T.Keyed.one_key c.self.invariant c.self.view_is)

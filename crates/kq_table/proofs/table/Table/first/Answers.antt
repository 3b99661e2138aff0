use Rattle.std.proofs.Common.{◌∙◌}
use Rattle.kq_table.proofs.KeptLaws.{seen, first-row, own_keys}
use Rattle.kq_table.proofs.table.Table.first.Goals as goal

pub returns-clause-first : goal.returns-clause-first
returns-clause-first g c =
    let table = seen g.met.T.Key.Eq.laws g.met.T.Target.Eq.laws g.met.T.Keyed.one_key c.self.invariant c.self.view_is in
    c.row_at.ensures ∙ first-row table

pub returns-clause-own_keys : goal.returns-clause-own_keys
returns-clause-own_keys g c = own_keys (seen g.met.T.Key.Eq.laws g.met.T.Target.Eq.laws g.met.T.Keyed.one_key c.self.invariant c.self.view_is)

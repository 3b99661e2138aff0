use Rattle.std.proofs.Common.{◌∙◌}
use Rattle.kq_table.proofs.KeptLaws.{indexed, seen, sought-row}
use Rattle.kq_table.proofs.table.Table.look_at.Goals as goal

pub near-requires : goal.near-requires
near-requires g c = indexed c.self.invariant

pub returns : goal.returns
returns g c =
    let table = seen g.met.T.Key.Eq.laws g.met.T.Target.Eq.laws g.met.T.Keyed.one_key c.self.invariant c.self.view_is in
    c.seen_at.ensures ∙ sought-row table c.args.key c.near.result c.near.ensures

use Rattle.std.proofs.Common.{sym, ◌∙◌}
use Rattle.kq_table.proofs.KeptLaws.{seen, stands-row}
use Rattle.kq_table.proofs.table.Table.look_there.Goals as goal

pub returns : goal.returns
returns g c = λ row is.
    let table = seen g.met.T.Key.Eq.laws g.met.T.Target.Eq.laws g.met.T.Keyed.one_key c.self.invariant c.self.view_is in
    stands-row table c.in-Some.ensures ∙ sym c.in-Some.ensures.here ∙ sym c.seen_at.ensures ∙ is

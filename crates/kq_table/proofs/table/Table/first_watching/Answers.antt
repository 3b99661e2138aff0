use Rattle.std.proofs.Common.{◌∙◌}
use Rattle.kq_table.proofs.KeptLaws.{seen}
use Rattle.kq_table.proofs.WatchLaws.{first-watching, are-led}
use Rattle.kq_table.proofs.table.Table.first_watching.Goals as goal

pub first_near-first-requires : goal.first_near-first-requires
first_near-first-requires g c =
    are-led (seen g.met.T.Key.Eq.laws g.met.T.Target.Eq.laws g.met.T.Keyed.one_key c.self.invariant c.self.view_is)

pub returns : goal.returns
returns g c =
    let table = seen g.met.T.Key.Eq.laws g.met.T.Target.Eq.laws g.met.T.Keyed.one_key c.self.invariant c.self.view_is in
    c.watcher_at.ensures ∙ first-watching table c.args.target c.first_near-first.result c.first_near-first.ensures

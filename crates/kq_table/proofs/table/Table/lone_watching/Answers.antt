use Rattle.std.proofs.Common.{Some}
use Rattle.kq_table.proofs.KeptLaws.{seen}
use Rattle.kq_table.proofs.WatchLaws.{row-found, lone-watching}
use Rattle.kq_table.proofs.table.Table.lone_watching.Goals as goal

pub returns-clause-found : goal.returns-clause-found
returns-clause-found g c = λ row is.
    let table = seen g.met.T.Key.Eq.laws g.met.T.Target.Eq.laws g.met.T.Keyed.one_key c.self.invariant c.self.view_is in
    row-found table (Some c.guess_first.result.slot) row (c.lone_at.ensures row is).here

pub returns-clause-alone : goal.returns-clause-alone
returns-clause-alone g c = λ row is.
    let table = seen g.met.T.Key.Eq.laws g.met.T.Target.Eq.laws g.met.T.Keyed.one_key c.self.invariant c.self.view_is in
    lone-watching table c.args.target c.guess_first.result.slot row (c.lone_at.ensures row is)

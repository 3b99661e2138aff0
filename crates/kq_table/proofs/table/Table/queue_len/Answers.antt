use Rattle.std.proofs.Common.{sym}
use Rattle.kq_table.proofs.KeptLaws.{seen, queue-count}
use Rattle.kq_table.proofs.table.Table.queue_len.Goals as goal

pub returns : goal.returns
returns g c = sym (queue-count (seen g.met.T.Key.Eq.laws g.met.T.Target.Eq.laws g.met.T.Keyed.one_key c.self.invariant c.self.view_is))

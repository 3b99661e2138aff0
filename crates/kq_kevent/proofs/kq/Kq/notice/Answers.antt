use Rattle.std.proofs.Common.{sym}
use Rattle.kq_kevent.proofs.kq.Kq.notice.Goals as goal

pub returns-then-is_settled-clause-kq : goal.returns-then-is_settled-clause-kq
returns-then-is_settled-clause-kq g c = sym (c.is_settled.ensures.settled c.if-is_settled.true (g.V.Views.sees c.args.views.now))

use Rattle.std.proofs.Common.{sym, ap, ◌∙◌}
use Rattle.kq_projection.specs.LoneKqueue.{LoneKqueue}
use Rattle.kq_projection.proofs.Kept.{none-closed}
use Rattle.kq_projection.proofs.alone.lone_kqueue.LoneKqueue.close.Goals as goal

pub returns-else-pid-owner : goal.returns-else-pid-owner
returns-else-pid-owner c =
    none-closed c.args.pid c.args.number c.args.self.now
    (λ same. c.if-pid-owner.false (same ∙ sym (c.owner.ensures ∙ ap (λ (a : LoneKqueue). a.owner) c.self.view_is)))

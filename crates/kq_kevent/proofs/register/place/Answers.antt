use Rattle.std.proofs.Common.{sym, ap, ◌∙◌}
use Rattle.kq_model.specs.Knote.{without_key}
use Rattle.kq_model.specs.Tallied.{Knote}
use Rattle.kq_kevent.proofs.QueueLaws.{queue_for-disabled}
use Rattle.kq_kevent.proofs.register.place.Goals as goal

pub returns-then-not-knote-clause-queue : goal.returns-then-not-knote-clause-queue
returns-then-not-knote-clause-queue c =
    let k = c.args.knote.now in
    let q = c.args.knotes.now.queue in
    c.take_out_at.ensures.queue ∙ ap (λ (n : Knote). without_key n.key q) c.knote.view_is
    ∙ sym (queue_for-disabled k q (ap (λ (n : Knote). n.enabled) (sym c.knote.view_is) ∙ c.if-not-knote.true))

use Rattle.std.proofs.Common.{◌≡◌, true, false, cond, sym, ap, ◌∙◌}
use Rattle.kq_model.specs.ChangedKnote.{key_of}
use Rattle.kq_model.specs.Knote.{without_key}
use Rattle.kq_model.specs.Registration.{queue_for, is_restart}
use Rattle.kq_model.specs.Tallied.{Knote}
use Rattle.kq_kevent.proofs.register.renew.Goals as goal

pub returns-then-is_restart-clause-queue : goal.returns-then-is_restart-clause-queue
returns-then-is_restart-clause-queue c =
    let q = c.args.knotes.now.queue in
    let k = c.args.knote.now in
    let restarts : is_restart c.args.change.now ≡ true = sym c.is_restart.ensures ∙ c.if-is_restart.true in
    c.place.ensures.queue
    ∙ ap (queue_for k) (c.take_out_at.ensures.queue ∙ ap (λ (n : Knote). without_key n.key q) c.knote.view_is
    ∙ ap (λ key. without_key key q) c.requires.key)
    ∙ ap (λ b. queue_for k (cond b (without_key (key_of c.args.change.now) q) q)) (sym restarts)

pub returns-else-is_restart-clause-queue : goal.returns-else-is_restart-clause-queue
returns-else-is_restart-clause-queue c =
    let q = c.args.knotes.now.queue in
    let k = c.args.knote.now in
    let stays : is_restart c.args.change.now ≡ false = sym c.is_restart.ensures ∙ c.if-is_restart.false in
    c.place-else-is_restart.ensures.queue
    ∙ ap (λ b. queue_for k (cond b (without_key (key_of c.args.change.now) q) q)) (sym stays)

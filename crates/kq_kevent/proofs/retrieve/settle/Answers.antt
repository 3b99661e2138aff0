use Rattle.std.proofs.Common.{rules, ◌≡◌, ◌||◌, true, not, cond, ◌++◌, ◌∷◌, [], sym, ap, ◌∙◌}
use Rattle.kq_model.specs.Knote.{without_key}
use Rattle.kq_model.specs.Retrieval.{back_after, stays}
use Rattle.kq_model.specs.Tallied.{Knote}
use Rattle.kq_kevent.proofs.QueueLaws.{without_key-absent}
use Rattle.kq_kevent.proofs.retrieve.settle.Goals as goal

pub returns-then-knote-clause-queue : goal.returns-then-knote-clause-queue
unfolding back_after stays
returns-then-knote-clause-queue c =
    let k = c.args.delivered.now.row in
    let q = c.args.knotes.now.queue in
    let once : k.oneshot ≡ true = ap (λ (n : Knote). n.oneshot) (sym c.knote.view_is) ∙ c.if-knote.true in
    c.remove_at.ensures.queue ∙ ap (λ (n : Knote). without_key n.key q) c.knote.view_is
    ∙ without_key-absent k.key q c.requires.absent
    ∙ ap (λ b. cond (not (b || k.clear || k.dispatch)) (q ++ k.key ∷ []) q) (sym once)

pub returns-then-knote-3-clause-queue : goal.returns-then-knote-3-clause-queue
unfolding back_after stays
returns-then-knote-3-clause-queue c = search rules

pub returns-else-knote-3-clause-queue : goal.returns-else-knote-3-clause-queue
unfolding back_after stays
returns-else-knote-3-clause-queue c = search rules

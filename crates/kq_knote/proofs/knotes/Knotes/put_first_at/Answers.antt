use Rattle.std.proofs.Common.{◌∷◌, cond, ap, ◌∙◌}
use Rattle.kq_model.specs.Knote.{has_key, without_key}
use Rattle.kq_knote.specs.Reserved.{Reserved}
use Rattle.kq_knote.proofs.RowLaws.{with_first-keys}
use Rattle.kq_knote.proofs.knotes.Knotes.put_first_at.Goals as goal

pub returns-clause-queue : goal.returns-clause-queue
returns-clause-queue c =
    c.put_first_at.ensures.queue ∙ with_first-keys c.args.key c.self.inside.rows.queue
    ∙ ap (λ (v : Reserved). cond (has_key c.args.key v.queue) (c.args.key ∷ without_key c.args.key v.queue) v.queue) c.self.view_is

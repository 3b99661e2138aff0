use Rattle.std.proofs.Common.{ap, ◌∙◌}
use Rattle.kq_model.specs.Knote.{without_key}
use Rattle.kq_knote.specs.Reserved.{Reserved}
use Rattle.kq_knote.proofs.RowLaws.{without_waiting-keys}
use Rattle.kq_knote.proofs.knotes.Knotes.take_out_at.Goals as goal

pub returns-clause-queue : goal.returns-clause-queue
returns-clause-queue c =
    c.take_out_at.ensures.queue ∙ without_waiting-keys c.args.key c.self.inside.rows.queue
    ∙ ap (λ (v : Reserved). without_key c.args.key v.queue) c.self.view_is

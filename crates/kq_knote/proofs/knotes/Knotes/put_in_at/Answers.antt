use Rattle.std.proofs.Common.{cond, ap, ◌∙◌}
use Rattle.std.specs.Option.{is_some}
use Rattle.kq_model.specs.Knote.{find_knote, queued}
use Rattle.kq_knote.specs.Reserved.{Reserved}
use Rattle.kq_knote.proofs.RowLaws.{put_in-knotes}
use Rattle.kq_knote.proofs.knotes.Knotes.put_in_at.Goals as goal

pub returns-clause-queue : goal.returns-clause-queue
returns-clause-queue c =
    c.put_in_at.ensures.queue ∙ put_in-knotes c.args.key c.self.inside.rows.rows c.self.inside.rows.queue
    ∙ ap (λ (v : Reserved). cond (is_some (find_knote c.args.key v.knotes)) (queued c.args.key v.queue) v.queue) c.self.view_is

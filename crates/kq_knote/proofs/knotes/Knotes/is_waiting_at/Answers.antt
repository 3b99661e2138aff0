use Rattle.std.proofs.Common.{ap, ◌∙◌}
use Rattle.kq_model.specs.Knote.{has_key}
use Rattle.kq_knote.specs.Reserved.{Reserved}
use Rattle.kq_knote.proofs.RowLaws.{waits_in-keys}
use Rattle.kq_knote.proofs.knotes.Knotes.is_waiting_at.Goals as goal

pub returns : goal.returns
returns c =
    c.is_waiting_at.ensures ∙ waits_in-keys c.args.key c.self.inside.rows.queue
    ∙ ap (λ (v : Reserved). has_key c.args.key v.queue) c.self.view_is

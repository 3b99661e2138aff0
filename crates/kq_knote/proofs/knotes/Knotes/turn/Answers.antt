use Rattle.std.proofs.Common.{ap, ◌∙◌}
use Rattle.kq_table.specs.Rows.{turned}
use Rattle.kq_knote.specs.Reserved.{Reserved}
use Rattle.kq_knote.proofs.knotes.Knotes.turn.Goals as goal

pub returns-clause-queue : goal.returns-clause-queue
returns-clause-queue c = c.turn.ensures.queue ∙ ap (λ (v : Reserved). turned v.queue) c.self.view_is

use Rattle.std.proofs.Common.{ap, ◌∙◌}
use Rattle.kq_model.specs.Knote.{key_eq}
use Rattle.kq_table.specs.Rows.{key_behind}
use Rattle.kq_knote.specs.Reserved.{Reserved}
use Rattle.kq_knote.proofs.RowLaws.{key_behind-keys}
use Rattle.kq_knote.proofs.knotes.Knotes.behind.Goals as goal

pub returns : goal.returns
returns c =
    c.behind.ensures ∙ key_behind-keys c.args.key c.self.inside.rows.queue
    ∙ ap (λ (v : Reserved). key_behind key_eq c.args.key v.queue) c.self.view_is

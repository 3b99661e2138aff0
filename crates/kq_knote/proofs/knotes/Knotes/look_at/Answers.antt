use Rattle.std.proofs.Common.{ap, ◌∙◌}
use Rattle.kq_model.specs.Knote.{find_knote}
use Rattle.kq_knote.specs.Reserved.{Reserved}
use Rattle.kq_knote.proofs.RowLaws.{find_row-knotes}
use Rattle.kq_knote.proofs.knotes.Knotes.look_at.Goals as goal

pub returns : goal.returns
returns c =
    c.look_at.ensures ∙ find_row-knotes c.args.key c.self.inside.rows.rows
    ∙ ap (λ (v : Reserved). find_knote c.args.key v.knotes) c.self.view_is

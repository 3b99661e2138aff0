use Rattle.std.proofs.Common.{sym, ap, ◌∙◌}
use Rattle.kq_model.specs.Knote.{find_knote}
use Rattle.kq_knote.specs.Reserved.{Reserved}
use Rattle.kq_knote.proofs.RowLaws.{find_row-knotes}
use Rattle.kq_knote.proofs.knotes.Knotes.look_there.Goals as goal

pub returns : goal.returns
returns c = λ knote is.
    ap (λ (v : Reserved). find_knote c.args.key v.knotes) (sym c.self.view_is)
    ∙ sym (find_row-knotes c.args.key c.self.inside.rows.rows) ∙ c.look_there.ensures knote is

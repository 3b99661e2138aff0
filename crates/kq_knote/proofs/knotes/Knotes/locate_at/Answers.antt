use Rattle.std.proofs.Common.{ap, ◌∙◌}
use Rattle.kq_model.specs.Knote.{find_knote}
use Rattle.kq_model.proofs.Tallied.{found-tallied}
use Rattle.kq_knote.specs.Reserved.{Reserved}
use Rattle.kq_knote.proofs.RowLaws.{find_row-knotes}
use Rattle.kq_knote.proofs.knotes.Knotes.locate_at.Goals as goal

pub returns-clause-knote : goal.returns-clause-knote
returns-clause-knote c =
    c.locate_at.ensures ∙ find_row-knotes c.args.key c.self.inside.rows.rows
    ∙ ap (λ (v : Reserved). find_knote c.args.key v.knotes) c.self.view_is

pub returns-clause-model : goal.returns-clause-model
returns-clause-model c = λ ms same. returns-clause-knote c ∙ found-tallied c.args.self.now.knotes ms same c.args.key

use Rattle.std.proofs.Common.{sym, ap, ◌∙◌}
use Rattle.kq_model.specs.Knote.{find_knote}
use Rattle.kq_model.specs.Tallied.{Knote}
use Rattle.kq_model.proofs.KnoteLaws.{with_knote-absent}
use Rattle.kq_model.proofs.Tallied.{put-tallied}
use Rattle.kq_knote.proofs.knotes.Knotes.modify.Goals as goal

pub returns-in_default-clause-knotes : goal.returns-in_default-clause-knotes
returns-in_default-clause-knotes c =
    let knotes = c.args.self.now.knotes in
    sym (with_knote-absent c.args.knote knotes (ap (λ (k : Knote). find_knote k.key knotes) (sym c.knote.view_is) ∙ sym c.in_default.ensures.knote))

pub returns-in_default-clause-model : goal.returns-in_default-clause-model
returns-in_default-clause-model c = λ ms m same one.
    returns-in_default-clause-knotes c ∙ put-tallied c.args.self.now.knotes ms same c.args.knote m one

use Rattle.std.proofs.Common.{option_and_then, sym, ap, ◌∙◌}
use Rattle.kq_model.specs.Look.{look, look_by, notice_or}
use Rattle.kq_model.specs.Tallied.{Knote}
use Rattle.kq_model.proofs.Tallied.{look-tallied}
use Rattle.kq_filters.proofs.filter.look.Goals as goal

pub returns-clause-model : goal.returns-clause-model
unfolding look
returns-clause-model c = λ views m same is.
    let k = c.args.knote.now in
    let seen = ap (λ v. look_by k.key.filter v k) (is ∙ ap (λ (n : Knote). option_and_then views.view n.target) (sym same)) in
    c.notice_or.ensures
    ∙ ap (λ (n : Knote). notice_or n.notice c.look_by.result) c.knote.view_is
    ∙ ap (notice_or k.notice) (c.look_by.ensures ∙ seen)
    ∙ look-tallied k m same views

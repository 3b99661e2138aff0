use Rattle.std.proofs.Common.{cond, ap, ◌∙◌}
use Rattle.kq_model.proofs.Tallied.{hint-tallied, done-tallied}
use Rattle.kq_filters.specs.declared.hearing.Heard.TheVariants.{Drop, Kept}
use Rattle.kq_filters.proofs.hearing.hear.Goals as goal

pub returns-clause-model : goal.returns-clause-model
returns-clause-model c = λ m same. (
  c.tell.ensures.knote ∙ hint-tallied c.args.knote.now m same c.args.hint,
  c.after.ensures ∙ ap (λ b. cond b Drop Kept) (c.tell.ensures.done ∙ done-tallied c.args.knote.now m same c.args.hint),
)

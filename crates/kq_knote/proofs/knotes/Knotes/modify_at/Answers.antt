use Rattle.std.proofs.Common.{cond, ap, ◌∙◌}
use Rattle.kq_model.specs.Knote.{with_knote}
use Rattle.kq_model.proofs.Tallied.{put-tallied}
use Rattle.kq_knote.proofs.knotes.Knotes.modify_at.Goals as goal

pub returns-then-modify_there-clause-knotes : goal.returns-then-modify_there-clause-knotes
returns-then-modify_there-clause-knotes c =
    let ks = c.args.self.now.knotes in
    c.modify_there.ensures.knotes ∙ ap (λ b. cond b (with_knote c.args.knote ks) ks) c.if-modify_there.true

pub returns-then-modify_there-clause-model : goal.returns-then-modify_there-clause-model
returns-then-modify_there-clause-model c = λ ms m same one.
    returns-then-modify_there-clause-knotes c ∙ put-tallied c.args.self.now.knotes ms same c.args.knote m one

pub returns-clause-knotes : goal.returns-clause-knotes
returns-clause-knotes c =
    let ks = c.args.self.now.knotes in
    c.modify_anew.ensures.knotes
    ∙ ap (with_knote c.args.knote) (c.modify_there.ensures.knotes ∙ ap (λ b. cond b (with_knote c.args.knote ks) ks) c.if-modify_there.false)

pub returns-clause-model : goal.returns-clause-model
returns-clause-model c = λ ms m same one. returns-clause-knotes c ∙ put-tallied c.args.self.now.knotes ms same c.args.knote m one

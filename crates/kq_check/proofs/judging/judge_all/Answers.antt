-- The fold begins with the empty system, and comes to one outcome, whichever orders are taken.
use Rattle.std.proofs.Common.{◌≡◌, ◌∙◌, [], None, ap, rules, subst}
use Rattle.std.proofs.lemmas.Result.{IfOk-weaker}
use Rattle.kq_model.specs.Tallied.{System}
use Rattle.kq_system.specs.SystemState.{system_of}
use Rattle.kq_check.specs.Judged.{IsJudged, IsJudgedFrom}
use Rattle.kq_check.proofs.AnyOrder.{any-order}
use Rattle.kq_check.proofs.judging.judge_all.Goals as goal

pub returns-clause-judged : goal.returns-clause-judged
returns-clause-judged c =
    let begun = c.deref_mut.result.now in
    let is : begun ≡ c.in_ok-empty.empty = search rules in
    IfOk-weaker c.judge_from.result _ _
    (λ o judged. subst (λ (s : System). IsJudgedFrom c.args.ignored.now c.args.permits 1 s c.args.trace.now.events c.args.answers.now None [] o)
    (ap system_of is ∙ c.in_ok-empty.ensures.system) judged) c.judge_from.ensures

pub returns-clause-any_order : goal.returns-clause-any_order
returns-clause-any_order c =
    let begun = c.deref_mut.result.now in
    let is : begun ≡ c.in_ok-empty.empty = search rules in
    IfOk-weaker c.judge_from.result _ _
    (λ o judged. any-order c.args.ignored.now c.args.permits c.args.trace.now.version c.args.trace.now.events c.args.answers.now o
    (subst (λ (s : System). IsJudgedFrom c.args.ignored.now c.args.permits 1 s c.args.trace.now.events c.args.answers.now None [] o)
    (ap system_of is ∙ c.in_ok-empty.ensures.system) judged)) c.judge_from.ensures

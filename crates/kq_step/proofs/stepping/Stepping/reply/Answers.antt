-- One record more.
use Rattle.std.proofs.Common.{◌≡◌, ◌∙◌, ◌<◌, ap, arith, rules, subst, sym}
use Rattle.std.proofs.lemmas.Result.{IfOk-weaker}
use Rattle.kq_merge.proofs.WrittenRows.{events-in-calls}
use Rattle.kq_model.specs.Report.{calls_in, events_in}
use Rattle.kq_step.specs.Stepping.{replied_line}
use Rattle.kq_step.specs.Stood.{HasReplied}
use Rattle.kq_step.proofs.Replies.{replied}
use Rattle.kq_step.proofs.stepping.Stepping.reply.Goals as goal

pub invariant_of-self-2 : goal.invariant_of-self-2
invariant_of-self-2 c =
    let r = c.in_ok-reply.reply in
    let few = events-in-calls r c.from.result (c.from.ensures ∙ c.events_in.ensures) (search rules) in
    let place : c.self.inside.system.applied < 1000000 = subst (λ s. s.system.applied < 1000000) (sym c.self.view_is) c.requires in
    let next = c.in_ok-reply.ensures.applied in
    (omega (arith, next, place), omega (arith, next, c.calls_in.ensures.bound, c.self.invariant.1), omega (arith, few, c.calls_in.ensures.value, c.self.invariant.2))

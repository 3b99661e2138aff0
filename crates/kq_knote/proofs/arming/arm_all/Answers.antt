use Rattle.std.proofs.Common.{◌-◌, ◌+◌, ◌≤◌, Option, length, ap, ◌∙◌, subst, arith}
use Rattle.kq_alarm.specs.Armed.{HasAlarm}
use Rattle.kq_model.specs.Tallied.{Knote}
use Rattle.kq_model.specs.Ticks.{last_moment}
use Rattle.kq_knote.proofs.ArmLaws.{IsArming, arm-start, arm-stops, arm-ends, arm-goes}
use Rattle.kq_knote.proofs.RowLaws.{row_after-knotes}
use Rattle.kq_knote.proofs.WalkLaws.{after}
use Rattle.kq_knote.proofs.arming.arm_all.Goals as goal

pub loop-step-init : goal.loop-step-init
loop-step-init c = record {
  at = arm-start c.args.since c.args.rows.now.rows c.first-next.result (length c.args.rows.now.rows - 0) c.args.alarms.now.entries c.first-next.ensures.first (omega arith);
}

pub loop-step-preserved : goal.loop-step-preserved
loop-step-preserved c =
    let ks = c.args.rows.now.rows in
    let left = length ks - c.loop-step._step in
    let at = subst (λ (o : Option Knote). IsArming c.args.since ks o left c.loop-step.alarms.entries) c.in-Some.is c.loop-step.invariant.at in
    record {
      at = arm-goes c.args.since ks c.requires.own_keys c.in-Some.knote c.next_after-next.result left (length ks - (c.loop-step._step + 1)) c.first_after-first.result
          c.loop-step.alarms.entries c.put_alarm.new.alarms.entries at (omega arith)
          (c.next_after-next.ensures ∙ row_after-knotes c.knote.inside.key ks ∙ ap (λ (n : Knote). after n.key ks) c.knote.view_is)
          c.first_after-first.ensures c.put_alarm.ensures.kept
          (subst (λ (n : Knote). c.first_after-first.result ≤ last_moment → HasAlarm c.put_alarm.new.alarms.entries c.first_after-first.result n.key.ident) c.knote.view_is
          (c.put_alarm.ensures.here c.if-not-put_alarm.false));
    }

pub returns-in_default : goal.returns-in_default
returns-in_default c = λ _.
    let ks = c.args.rows.now.rows in
    let left = length ks - c.loop-step._step in
    arm-stops c.args.since ks left c.loop-step.alarms.entries
    (subst (λ (o : Option Knote). IsArming c.args.since ks o left c.loop-step.alarms.entries) c.in_default.is c.loop-step.invariant.at)

pub returns : goal.returns
returns c = λ _.
    let ks = c.args.rows.now.rows in
    arm-ends c.args.since ks c.loop-step.next (length ks - c.loop-step._step) c.loop-step.alarms.entries (omega arith) c.loop-step.invariant.at

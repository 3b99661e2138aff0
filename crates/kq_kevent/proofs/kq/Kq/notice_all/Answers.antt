use Rattle.std.proofs.Common.{◌-◌, ◌+◌, Option, length, slice_get, refl, ap, ◌∙◌, subst, arith}
use Rattle.kq_model.specs.Hints.{notified}
use Rattle.kq_model.specs.Knote.{find_knote}
use Rattle.kq_model.specs.Kqueue.{HaveOwnKeys}
use Rattle.kq_model.specs.Alerting.{alerted_at}
use Rattle.kq_model.specs.Tallied.{Knote}
use Rattle.kq_knote.proofs.WalkLaws.{after}
use Rattle.kq_kevent.specs.Owned.{OwnedKqueue}
use Rattle.kq_kevent.proofs.NotifyLaws.{IsOver, over-start, over-stops, over-ends, over-goes}
use Rattle.kq_kevent.proofs.kq.Kq.notice_all.Goals as goal

pub loop-step-init : goal.loop-step-init
loop-step-init g c =
    let kq = c.args.self.now.kq in
    record {
      over = over-start (g.V.Views.sees c.args.views.now) c.args.hints.now kq c.first-next.result (length kq.knotes - 0)
          (c.first-next.ensures ∙ ap (λ (v : OwnedKqueue). slice_get v.kq.knotes 0) c.self.view_is) (omega arith);
      owner = refl;
      version = refl;
      reserved = omega arith;
      limit = refl;
    }

pub loop-step-preserved : goal.loop-step-preserved
loop-step-preserved g c =
    let views = g.V.Views.sees c.args.views.now in
    let hints = c.args.hints.now in
    let wanted = notified views hints c.args.self.now.kq in
    let left = length c.args.self.now.kq.knotes - c.loop-step._step in
    let fewer = length c.args.self.now.kq.knotes - (c.loop-step._step + 1) in
    let over = subst (λ (o : Option Knote). IsOver views hints wanted o left c.loop-step.self.kq) c.in-Some.is c.loop-step.invariant.over in
    let own = subst (λ (v : OwnedKqueue). HaveOwnKeys v.kq.knotes) c.self-in-loop-step.view_is c.self-in-loop-step.invariant.own_keys in
    record {
      over = over-goes views hints wanted c.in-Some.knote left c.loop-step.self.kq own over c.next_after-next.result fewer c.notice.new.self.kq (omega arith)
          (c.next_after-next.ensures ∙ ap (λ (k : Knote). after k.key c.self-in-loop-step.inside.knotes.knotes) c.knote.view_is
          ∙ ap (λ (v : OwnedKqueue). after c.in-Some.knote.key v.kq.knotes) c.self-in-loop-step.view_is)
          (c.notice.ensures.kq ∙ ap (λ (k : Knote). alerted_at views hints (find_knote k.key c.loop-step.self.kq.knotes) c.loop-step.self.kq) c.knote.view_is);
      owner = c.notice.ensures.owner ∙ c.loop-step.invariant.owner;
      version = c.notice.ensures.version ∙ c.loop-step.invariant.version;
      reserved = omega arith;
      limit = c.notice.ensures.limit ∙ c.loop-step.invariant.limit;
    }

pub returns-in_default-clause-kq : goal.returns-in_default-clause-kq
returns-in_default-clause-kq g c =
    let views = g.V.Views.sees c.args.views.now in
    let hints = c.args.hints.now in
    let wanted = notified views hints c.args.self.now.kq in
    let left = length c.args.self.now.kq.knotes - c.loop-step._step in
    over-stops views hints wanted left c.loop-step.self.kq
    (subst (λ (o : Option Knote). IsOver views hints wanted o left c.loop-step.self.kq) c.in_default.is c.loop-step.invariant.over)

pub returns-clause-kq : goal.returns-clause-kq
returns-clause-kq g c =
    let views = g.V.Views.sees c.args.views.now in
    let hints = c.args.hints.now in
    over-ends views hints (notified views hints c.args.self.now.kq) c.loop-step.next
    (length c.args.self.now.kq.knotes - c.loop-step._step) c.loop-step.self.kq
    (omega (arith, ap (λ (v : OwnedKqueue). length v.kq.knotes) c.self.view_is)) c.loop-step.invariant.over

use Rattle.std.proofs.Common.{◌-◌, ◌+◌, ◌<◌, ◌≤◌, Option, length, slice_get, inl, refl, sym, ap, ◌∙◌, subst, arith}
use Rattle.kq_model.specs.Kqueue.{HaveOwnKeys}
use Rattle.kq_model.specs.Tallied.{Knote}
use Rattle.kq_knote.proofs.WalkLaws.{after}
use Rattle.kq_kevent.specs.Owned.{OwnedKqueue}
use Rattle.kq_kevent.specs.Ringing.{IsReached}
use Rattle.kq_kevent.proofs.RingWalk.{IsLooking, look-start, look-stops, look-ends, look-goes, look-there, nearer-later, nearer-bounded, nearer-reached}
use Rattle.kq_kevent.proofs.kq.Kq.next_moment.Goals as goal

pub loop-step-init : goal.loop-step-init
loop-step-init c =
    let ks = c.args.self.now.kq.knotes in
    record {
      at = look-start c.args.from c.args.low ks c.first-next.result (length ks - 0) (c.args.to + 1)
          (c.first-next.ensures ∙ ap (λ (v : OwnedKqueue). slice_get v.kq.knotes 0) c.self.view_is) (omega arith);
      later = omega arith;
      bounded = omega arith;
      reached = inl refl;
    }

pub loop-step-preserved : goal.loop-step-preserved
loop-step-preserved c =
    let ks = c.args.self.now.kq.knotes in
    let left = length ks - c.loop-step._step in
    let at = subst (λ (o : Option Knote). IsLooking c.args.from c.args.low ks o left c.loop-step.least) c.in-Some.is c.loop-step.invariant.at in
    let own = subst (λ (v : OwnedKqueue). HaveOwnKeys v.kq.knotes) c.self.view_is c.self.invariant.own_keys in
    record {
      at = look-goes c.args.from c.args.low ks own c.in-Some.knote c.next_after-next.result left (length ks - (c.loop-step._step + 1)) c.loop-step.least
          c.nearer-least.result c.first_after-first.result at (omega arith)
          (c.next_after-next.ensures ∙ ap (λ (k : Knote). after k.key c.self.inside.knotes.knotes) c.knote.view_is
          ∙ ap (λ (v : OwnedKqueue). after c.in-Some.knote.key v.kq.knotes) c.self.view_is)
          c.first_after-first.ensures c.nearer-least.ensures;
      later = subst (λ n. c.args.low < n) (sym c.nearer-least.ensures) (nearer-later c.args.low c.first_after-first.result c.loop-step.least c.loop-step.invariant.later);
      bounded = subst (λ n. n ≤ c.args.to + 1) (sym c.nearer-least.ensures)
          (nearer-bounded c.args.low c.first_after-first.result c.loop-step.least (c.args.to + 1) c.loop-step.invariant.bounded);
      reached = subst (IsReached c.args.from c.args.to ks) (sym c.nearer-least.ensures)
          (nearer-reached c.args.from c.args.to c.args.low c.first_after-first.result c.loop-step.least ks c.in-Some.knote
          (look-there c.args.from c.args.low ks own c.in-Some.knote left c.loop-step.least at) c.first_after-first.ensures c.loop-step.invariant.reached);
    }

pub returns-in_default-clause-none : goal.returns-in_default-clause-none
returns-in_default-clause-none c =
    let ks = c.args.self.now.kq.knotes in
    let left = length ks - c.loop-step._step in
    look-stops c.args.from c.args.low ks left c.loop-step.least
    (subst (λ (o : Option Knote). IsLooking c.args.from c.args.low ks o left c.loop-step.least) c.in_default.is c.loop-step.invariant.at)

pub returns-clause-none : goal.returns-clause-none
returns-clause-none c =
    let ks = c.args.self.now.kq.knotes in
    look-ends c.args.from c.args.low ks c.loop-step.next (length ks - c.loop-step._step) c.loop-step.least
    (omega (arith, ap (λ (v : OwnedKqueue). length v.kq.knotes) c.self.view_is)) c.loop-step.invariant.at

use Rattle.std.proofs.Common.{◌-◌, ◌+◌, Option, length, slice_get, refl, ap, ◌∙◌, subst, arith}
use Rattle.kq_model.specs.Kqueue.{HaveOwnKeys}
use Rattle.kq_model.specs.Tallied.{Knote}
use Rattle.kq_knote.proofs.WalkLaws.{after}
use Rattle.kq_kevent.specs.Owned.{OwnedKqueue}
use Rattle.kq_kevent.specs.Ringing.{rung_each, firsts_at}
use Rattle.kq_kevent.proofs.RingWalk.{IsRinging, ring-start, ring-stops, ring-ends, ring-there, ring-goes}
use Rattle.kq_kevent.proofs.kq.Kq.ring_at.Goals as goal

pub loop-step-init : goal.loop-step-init
loop-step-init c =
    let kq = c.args.self.now.kq in
    record {
      at = ring-start c.args.from c.args.to c.args.moment (rung_each c.args.from c.args.to (firsts_at c.args.from c.args.moment kq.knotes) kq) kq c.first-next.result
          (length kq.knotes - 0) (c.first-next.ensures ∙ ap (λ (v : OwnedKqueue). slice_get v.kq.knotes 0) c.self.view_is) (omega arith) refl;
      owner = refl;
      version = refl;
      room = refl;
      limit = refl;
    }

pub ring_if_first-requires : goal.ring_if_first-requires
ring_if_first-requires c =
    let kq = c.args.self.now.kq in
    let wanted = rung_each c.args.from c.args.to (firsts_at c.args.from c.args.moment kq.knotes) kq in
    let left = length kq.knotes - c.loop-step._step in
    let at = subst (λ (o : Option Knote). IsRinging c.args.from c.args.to c.args.moment wanted o left c.loop-step.self.kq) c.in-Some.is c.loop-step.invariant.at in
    let own = subst (λ (v : OwnedKqueue). HaveOwnKeys v.kq.knotes) c.self-in-loop-step.view_is c.self-in-loop-step.invariant.own_keys in
    record {
      there = ring-there c.args.from c.args.to c.args.moment wanted c.loop-step.self.kq own c.in-Some.knote left at;
      ordered = c.requires.ordered;
      within = c.requires.within;
    }

pub loop-step-preserved : goal.loop-step-preserved
loop-step-preserved c =
    let kq = c.args.self.now.kq in
    let wanted = rung_each c.args.from c.args.to (firsts_at c.args.from c.args.moment kq.knotes) kq in
    let left = length kq.knotes - c.loop-step._step in
    let fewer = length kq.knotes - (c.loop-step._step + 1) in
    let at = subst (λ (o : Option Knote). IsRinging c.args.from c.args.to c.args.moment wanted o left c.loop-step.self.kq) c.in-Some.is c.loop-step.invariant.at in
    let own = subst (λ (v : OwnedKqueue). HaveOwnKeys v.kq.knotes) c.self-in-loop-step.view_is c.self-in-loop-step.invariant.own_keys in
    record {
      at = ring-goes c.args.from c.args.to c.args.moment wanted c.loop-step.self.kq own c.in-Some.knote left at c.next_after-next.result fewer
          c.ring_if_first.new.self.kq (omega arith)
          (c.next_after-next.ensures ∙ ap (λ (k : Knote). after k.key c.self-in-loop-step.inside.knotes.knotes) c.knote.view_is
          ∙ ap (λ (v : OwnedKqueue). after c.in-Some.knote.key v.kq.knotes) c.self-in-loop-step.view_is)
          c.ring_if_first.ensures.kq;
      owner = c.ring_if_first.ensures.owner ∙ c.loop-step.invariant.owner;
      version = c.ring_if_first.ensures.version ∙ c.loop-step.invariant.version;
      room = c.ring_if_first.ensures.room ∙ c.loop-step.invariant.room;
      limit = c.ring_if_first.ensures.limit ∙ c.loop-step.invariant.limit;
    }

pub returns-in_default-clause-kq : goal.returns-in_default-clause-kq
returns-in_default-clause-kq c =
    let kq = c.args.self.now.kq in
    let wanted = rung_each c.args.from c.args.to (firsts_at c.args.from c.args.moment kq.knotes) kq in
    let left = length kq.knotes - c.loop-step._step in
    ring-stops c.args.from c.args.to c.args.moment wanted left c.loop-step.self.kq
    (subst (λ (o : Option Knote). IsRinging c.args.from c.args.to c.args.moment wanted o left c.loop-step.self.kq) c.in_default.is c.loop-step.invariant.at)

pub returns-clause-kq : goal.returns-clause-kq
returns-clause-kq c =
    let kq = c.args.self.now.kq in
    let wanted = rung_each c.args.from c.args.to (firsts_at c.args.from c.args.moment kq.knotes) kq in
    ring-ends c.args.from c.args.to c.args.moment wanted c.loop-step.next (length kq.knotes - c.loop-step._step) c.loop-step.self.kq
    (omega (arith, ap (λ (v : OwnedKqueue). length v.kq.knotes) c.self.view_is)) c.loop-step.invariant.at

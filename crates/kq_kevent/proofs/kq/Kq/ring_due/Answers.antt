use Rattle.std.proofs.Common.{Some, sym, ap, ◌∙◌, subst}
use Rattle.kq_knote.specs.Reserved.{Reserved}
use Rattle.kq_model.specs.Clock.{clocked}
use Rattle.kq_model.specs.Kqueue.{IsSound}
use Rattle.kq_kevent.specs.Owned.{OwnedKqueue, kqueue_in}
use Rattle.kq_kevent.proofs.kq.Kq.ring_due.Goals as goal

pub ring_all-requires-clause-sound : goal.ring_all-requires-clause-sound
ring_all-requires-clause-sound c =
    subst (λ (ks : Reserved). IsSound (kqueue_in ks)) (sym c.take_expiring.ensures.knotes) c.self.invariant

pub ring_each-requires-clause-sound : goal.ring_each-requires-clause-sound
ring_each-requires-clause-sound c =
    subst (λ (ks : Reserved). IsSound (kqueue_in ks)) (sym c.take_expiring.ensures.knotes) c.self.invariant

pub returns-in_default-clause-kq : goal.returns-in_default-clause-kq
returns-in_default-clause-kq c =
    ap (λ (v : OwnedKqueue). v.kq) c.foresee.ensures
    ∙ c.ring_all.ensures.kq
    ∙ ap (λ (ks : Reserved). clocked (Some (record { from = c.args.from; to = c.args.to })) (kqueue_in ks)) c.take_expiring.ensures.knotes
    ∙ ap (λ (v : OwnedKqueue). clocked (Some (record { from = c.args.from; to = c.args.to })) v.kq) c.self.view_is

pub returns-clause-kq : goal.returns-clause-kq
returns-clause-kq c =
    ap kqueue_in c.give_back_expiring.ensures
    ∙ ap (λ (v : OwnedKqueue). v.kq) c.self-2.view_is
    ∙ c.ring_each.ensures.kq
    ∙ ap (λ (ks : Reserved). clocked (Some (record { from = c.args.from; to = c.args.to })) (kqueue_in ks)) c.take_expiring.ensures.knotes
    ∙ ap (λ (v : OwnedKqueue). clocked (Some (record { from = c.args.from; to = c.args.to })) v.kq) c.self.view_is

use Rattle.std.proofs.Common.{◌≡◌, ◌∷◌, List, Option, false, None, Some, sym, ap, ◌∙◌, subst, refl}
use Rattle.kq_model.specs.declared.key.Key.{Key}
use Rattle.kq_model.specs.Knote.{find_knote, with_knote}
use Rattle.kq_model.specs.Kqueue.{IsSound}
use Rattle.kq_model.specs.Look.{Seen, look}
use Rattle.kq_model.specs.Retrieval.{with_idle, with_delivered}
use Rattle.kq_model.specs.Tallied.{Knote, Kqueue}
use Rattle.kq_model.specs.Views.{Views}
use Rattle.kq_kevent.specs.Owned.{OwnedKqueue, kqueue_in}
use Rattle.kq_kevent.proofs.RegisterLaws.{same_kqueue, IsSound-at}
use Rattle.kq_kevent.proofs.TurnLaws.{kqueue_of, IsTurn, IsTurn-idle, IsTurn-delivered}
use Rattle.kq_kevent.proofs.TurnSound.{IsSound-with_idle, IsSound-with_delivered}
use Rattle.kq_kevent.proofs.kq.Kq.turn_out.Goals as goal

-- the front stands before the rest
sound-front : (kq : Kqueue) (k : Knote) (rest : List Key) → IsSound kq → kq.queue ≡ k.key ∷ rest
    → IsSound (kqueue_of kq.knotes (k.key ∷ rest))
sound-front kq k rest sound first = subst (λ (q : List Key). IsSound (kqueue_of kq.knotes q)) first sound

-- this is what the knote at the front sees
abbrev IsSeenAt : Views → Option Seen → OwnedKqueue → Type 0
IsSeenAt views seen v =
    (k : Knote) (rest : List Key) → v.kq.queue ≡ k.key ∷ rest → find_knote k.key v.kq.knotes ≡ Some k → look views k ≡ seen

looked : (views : Views) (seen : Option Seen) {v w : OwnedKqueue} → v ≡ w → IsSeenAt views seen w → IsSeenAt views seen v
looked views seen same = subst (IsSeenAt views seen) (sym same)

pub invariant_of-self : goal.invariant_of-self
invariant_of-self g c =
    let kq = kqueue_in c.self.inside.knotes in
    let rest = c.take_front.new.self.queue in
    let k = c.in-Some.found.row in
    let knotes = c.modify_at.ensures.knotes ∙ ap (λ (n : Knote). with_knote (record n { active = false }) c.take_front.new.self.knotes) c.idle.view_is
    ∙ ap (with_knote (record k { active = false })) c.take_front.ensures.knotes in
    IsSound-at c.modify_at.new.self.knotes c.modify_at.new.self.queue (with_idle k (kqueue_of kq.knotes rest)) knotes c.modify_at.ensures.queue
    (IsSound-with_idle kq.knotes k.key rest k (sound-front kq k rest c.self.invariant c.in-Some.ensures.queue.0) c.in-Some.ensures.queue.1)

pub deliver-requires-clause-there : goal.deliver-requires-clause-there
deliver-requires-clause-there g c =
    ap (λ (ks : List Knote). find_knote c.in-Some.found.row.key ks) c.take_front.ensures.knotes ∙ c.in-Some.ensures.queue.1

pub deliver-requires-clause-absent : goal.deliver-requires-clause-absent
deliver-requires-clause-absent g c =
    let kq = kqueue_in c.self.inside.knotes in
    let rest = c.take_front.new.self.queue in
    let k = c.in-Some.found.row in
    (sound-front kq k rest c.self.invariant c.in-Some.ensures.queue.0).once.0

pub invariant_of-self-in-Some-seen : goal.invariant_of-self-in-Some-seen
invariant_of-self-in-Some-seen g c =
    let kq = kqueue_in c.self.inside.knotes in
    let rest = c.take_front.new.self.queue in
    let k = c.in-Some.found.row in
    let views = g.V.Views.sees c.args.views.now in
    subst IsSound (sym (c.deliver.ensures.kq ∙ ap (λ (ks : List Knote). with_delivered views k (kqueue_of ks rest)) c.take_front.ensures.knotes))
    (IsSound-with_delivered views kq.knotes k.key rest k (sound-front kq k rest c.self.invariant c.in-Some.ensures.queue.0) c.in-Some.ensures.queue.1)

pub returns-in-None-clause-kq : goal.returns-in-None-clause-kq
returns-in-None-clause-kq g c =
    let views = g.V.Views.sees c.args.views.now in
    let kq = kqueue_in c.self.inside.knotes in
    let rest = c.take_front.new.self.queue in
    let k = c.in-Some.found.row in
    let next = kqueue_in c.modify_at.new.self in
    let knotes = c.modify_at.ensures.knotes ∙ ap (λ (n : Knote). with_knote (record n { active = false }) c.take_front.new.self.knotes) c.idle.view_is
    ∙ ap (with_knote (record k { active = false })) c.take_front.ensures.knotes in
    (subst (λ (v : OwnedKqueue). IsTurn views v.kq next None) c.self.view_is
    (IsTurn-idle views kq next k.key rest k c.in-Some.ensures.queue.0 c.in-Some.ensures.queue.1 (looked views c.args.seen c.self.view_is c.requires.seen k rest c.in-Some.ensures.queue.0 c.in-Some.ensures.queue.1 ∙ c.in-None.is)
    (same_kqueue next.knotes next.queue (with_idle k (kqueue_of kq.knotes rest)) knotes c.modify_at.ensures.queue))).leaves

pub returns-in-None-clause-event : goal.returns-in-None-clause-event
returns-in-None-clause-event g c =
    let views = g.V.Views.sees c.args.views.now in
    let kq = kqueue_in c.self.inside.knotes in
    let rest = c.take_front.new.self.queue in
    let k = c.in-Some.found.row in
    let next = with_idle k (kqueue_of kq.knotes rest) in
    (subst (λ (v : OwnedKqueue). IsTurn views v.kq next None) c.self.view_is
    (IsTurn-idle views kq next k.key rest k c.in-Some.ensures.queue.0 c.in-Some.ensures.queue.1 (looked views c.args.seen c.self.view_is c.requires.seen k rest c.in-Some.ensures.queue.0 c.in-Some.ensures.queue.1 ∙ c.in-None.is) refl)).gives

pub returns-in-Some-seen-clause-kq : goal.returns-in-Some-seen-clause-kq
returns-in-Some-seen-clause-kq g c =
    let views = g.V.Views.sees c.args.views.now in
    let kq = kqueue_in c.self.inside.knotes in
    let rest = c.take_front.new.self.queue in
    let k = c.in-Some.found.row in
    let next = kqueue_in c.deliver.new.knotes in
    (subst (λ (v : OwnedKqueue). IsTurn views v.kq next (Some c.event_of.result)) c.self.view_is
    (IsTurn-delivered views kq next k.key rest k c.in-Some-seen.seen c.event_of.result c.in-Some.ensures.queue.0
    c.in-Some.ensures.queue.1 (looked views c.args.seen c.self.view_is c.requires.seen k rest c.in-Some.ensures.queue.0 c.in-Some.ensures.queue.1 ∙ c.in-Some-seen.is)
    (c.deliver.ensures.kq ∙ ap (λ (ks : List Knote). with_delivered views k (kqueue_of ks rest)) c.take_front.ensures.knotes)
    c.event_of.ensures)).leaves

pub returns-in-Some-seen-clause-event : goal.returns-in-Some-seen-clause-event
returns-in-Some-seen-clause-event g c =
    let views = g.V.Views.sees c.args.views.now in
    let kq = kqueue_in c.self.inside.knotes in
    let rest = c.take_front.new.self.queue in
    let k = c.in-Some.found.row in
    let next = with_delivered views k (kqueue_of kq.knotes rest) in
    (subst (λ (v : OwnedKqueue). IsTurn views v.kq next (Some c.event_of.result)) c.self.view_is
    (IsTurn-delivered views kq next k.key rest k c.in-Some-seen.seen c.event_of.result c.in-Some.ensures.queue.0
    c.in-Some.ensures.queue.1 (looked views c.args.seen c.self.view_is c.requires.seen k rest c.in-Some.ensures.queue.0 c.in-Some.ensures.queue.1 ∙ c.in-Some-seen.is) refl c.event_of.ensures)).gives

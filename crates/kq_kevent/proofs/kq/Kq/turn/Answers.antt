use Rattle.std.proofs.Common.{◌≡◌, ◌∷◌, ◌++◌, [], List, true, None, Some, slice_get, sym, ap, ◌∙◌, subst}
use Rattle.std.proofs.lemmas.Option.{same_Some}
use Rattle.kq_model.specs.declared.key.Key.{Key}
use Rattle.kq_model.specs.declared.kevent.Kevent.{Kevent}
use Rattle.kq_model.specs.Knote.{find_knote}
use Rattle.kq_model.specs.Kqueue.{IsSound}
use Rattle.kq_model.specs.Look.{Seen, look}
use Rattle.kq_model.specs.Retrieval.{event_of, stays, with_delivered}
use Rattle.kq_model.specs.Tallied.{Knote, Kqueue}
use Rattle.kq_model.specs.Views.{Views}
use Rattle.kq_table.specs.Rows.{turned}
use Rattle.kq_table.proofs.QueueLaws.{front-of}
use Rattle.kq_kevent.specs.Owned.{OwnedKqueue, kqueue_in}
use Rattle.kq_kevent.proofs.RegisterLaws.{same_kqueue}
use Rattle.kq_kevent.proofs.TurnLaws.{kqueue_of, IsTurn, IsTurn-delivered, front-key, delivered-level}
use Rattle.kq_kevent.proofs.TurnSound.{IsSound-with_delivered}
use Rattle.kq_kevent.proofs.kq.Kq.turn.Goals as goal

-- a kqueue whose first knote stays as it is, and the one with that knote's key at the back
module _ (views : Views) (k : Knote) (kq next : Kqueue) (first : slice_get kq.queue 0 ≡ Some k.key)
    (here : find_knote k.key kq.knotes ≡ Some k) (level : stays k ≡ true) (untold : k.notice ≡ None)
    (knotes : next.knotes ≡ kq.knotes) (queue : next.queue ≡ turned kq.queue) where
  behind : (rest : List Key) × (kq.queue ≡ k.key ∷ rest)
  behind = front-of kq.queue k.key first

  goes : next ≡ with_delivered views k (kqueue_of kq.knotes behind.0)
  unfolding turned
  goes =
      same_kqueue next.knotes next.queue (kqueue_of kq.knotes (behind.0 ++ k.key ∷ [])) knotes (queue ∙ ap turned behind.1)
      ∙ sym (delivered-level views k kq.knotes behind.0 level untold)

  sound : IsSound kq → IsSound next
  sound is =
      subst IsSound (sym goes)
      (IsSound-with_delivered views kq.knotes k.key behind.0 k (subst (λ (q : List Key). IsSound (kqueue_of kq.knotes q)) behind.1 is) here)

  turns : (seen : Seen) (e : Kevent) → look views k ≡ Some seen → e ≡ event_of k seen → IsTurn views kq next (Some e)
  turns seen e sees is = IsTurn-delivered views kq next k.key behind.0 k seen e behind.1 here sees goes is

pub invariant_of-self : goal.invariant_of-self
invariant_of-self g c =
    sound (g.V.Views.sees c.args.views.now) c.in-Some.front.now (kqueue_in c.self.inside.knotes) (kqueue_in c.turn.new.self)
    c.in-Some.ensures.0 c.in-Some.ensures.1 (c.stays.ensures.level c.if-stays.true) (c.stays.ensures.told c.if-stays.true)
    c.turn.ensures.knotes c.turn.ensures.queue c.self.invariant

pub returns-clause-kq : goal.returns-clause-kq
returns-clause-kq g c =
    let views = g.V.Views.sees c.args.views.now in
    let next = kqueue_in c.turn.new.self in
    (subst (λ (v : OwnedKqueue). IsTurn views v.kq next (Some c.event_of-event.result)) c.self.view_is
    (turns views c.in-Some.front.now (kqueue_in c.self.inside.knotes) next c.in-Some.ensures.0 c.in-Some.ensures.1
    (c.stays.ensures.level c.if-stays.true) (c.stays.ensures.told c.if-stays.true) c.turn.ensures.knotes c.turn.ensures.queue
    c.in-Some-found.seen c.event_of-event.result (sym c.in-Some-found.ensures) c.event_of-event.ensures)).leaves

pub returns-clause-event : goal.returns-clause-event
returns-clause-event g c =
    let views = g.V.Views.sees c.args.views.now in
    let next = kqueue_in c.turn.new.self in
    (subst (λ (v : OwnedKqueue). IsTurn views v.kq next (Some c.event_of-event.result)) c.self.view_is
    (turns views c.in-Some.front.now (kqueue_in c.self.inside.knotes) next c.in-Some.ensures.0 c.in-Some.ensures.1
    (c.stays.ensures.level c.if-stays.true) (c.stays.ensures.told c.if-stays.true) c.turn.ensures.knotes c.turn.ensures.queue
    c.in-Some-found.seen c.event_of-event.result (sym c.in-Some-found.ensures) c.event_of-event.ensures)).gives

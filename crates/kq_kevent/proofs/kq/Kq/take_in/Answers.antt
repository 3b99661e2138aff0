use Rattle.std.proofs.Common.{◌≡◌, List, None, length, ap, ◌∙◌, arith}
use Rattle.std.proofs.lemmas.List.{length_push}
use Rattle.std.specs.Option.{is_some}
use Rattle.kq_model.specs.Knote.{find_knote}
use Rattle.kq_model.specs.Registration.{queue_for, with_made}
use Rattle.kq_model.specs.Tallied.{Knote}
use Rattle.kq_kevent.specs.Owned.{OwnedKqueue, kqueue_in}
use Rattle.kq_kevent.proofs.RegisterLaws.{same_kqueue, IsSound-at}
use Rattle.kq_kevent.proofs.SoundLaws.{IsSound-made, found-made}
use Rattle.kq_kevent.proofs.kq.Kq.take_in.Goals as goal

pub attach-at-requires-clause-absent : goal.attach-at-requires-clause-absent
attach-at-requires-clause-absent c =
    ap (λ (v : OwnedKqueue). find_knote c.args.knote.key v.kq.knotes) c.self.view_is ∙ c.requires.absent

pub place-requires : goal.place-requires
place-requires c =
    let k = c.args.knote in
    let ks = c.self.inside.knotes.knotes in
    let absent : find_knote k.key ks ≡ None = ap (λ (v : OwnedKqueue). find_knote k.key v.kq.knotes) c.self.view_is ∙ c.requires.absent in
    ap (λ (now : List Knote). is_some (find_knote k.key now)) c.attach-at.ensures.knotes ∙ ap is_some (found-made k ks absent)

pub invariant_of-self : goal.invariant_of-self
invariant_of-self c =
    let k = c.args.knote in
    let kq = kqueue_in c.self.inside.knotes in
    let absent : find_knote k.key kq.knotes ≡ None = ap (λ (v : OwnedKqueue). find_knote k.key v.kq.knotes) c.self.view_is ∙ c.requires.absent in
    IsSound-at c.place.new.knotes.knotes c.place.new.knotes.queue (with_made k kq) (c.place.ensures.knotes ∙ c.attach-at.ensures.knotes)
    (c.place.ensures.queue ∙ ap (queue_for k) c.attach-at.ensures.queue) (IsSound-made kq k c.self.invariant absent)

pub returns-clause-kq : goal.returns-clause-kq
returns-clause-kq c =
    let k = c.args.knote in
    same_kqueue c.place.new.knotes.knotes c.place.new.knotes.queue (with_made k (kqueue_in c.self.inside.knotes))
    (c.place.ensures.knotes ∙ c.attach-at.ensures.knotes) (c.place.ensures.queue ∙ ap (queue_for k) c.attach-at.ensures.queue)
    ∙ ap (λ (v : OwnedKqueue). with_made k v.kq) c.self.view_is

pub returns-clause-limit : goal.returns-clause-limit
returns-clause-limit c =
    omega (
      arith,
      ap (length {A = Knote}) (c.place.ensures.knotes ∙ c.attach-at.ensures.knotes),
      length_push c.self.inside.knotes.knotes c.args.knote,
      c.attach-at.ensures.room,
      c.place.ensures.room,
      ap (λ (v : OwnedKqueue). v.room) c.self.view_is,
      ap (λ (v : OwnedKqueue). length v.kq.knotes) c.self.view_is,
    )

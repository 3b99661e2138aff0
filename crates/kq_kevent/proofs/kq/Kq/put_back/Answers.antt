use Rattle.std.proofs.Common.{List, ap, ◌∙◌}
use Rattle.std.specs.Option.{is_some}
use Rattle.kq_model.specs.Knote.{find_knote, with_knote}
use Rattle.kq_model.specs.Registration.{queue_for}
use Rattle.kq_model.specs.Tallied.{Knote, Kqueue}
use Rattle.kq_kevent.specs.Owned.{OwnedKqueue, kqueue_in}
use Rattle.kq_kevent.proofs.RegisterLaws.{same_kqueue, IsSound-at}
use Rattle.kq_kevent.proofs.SoundLaws.{IsSound-put_back, found-put}
use Rattle.kq_kevent.proofs.TurnLaws.{kqueue_of}
use Rattle.kq_kevent.proofs.kq.Kq.put_back.Goals as goal

-- the kqueue with this knote in the place of the one of its key
abbrev put : Knote → Kqueue → Kqueue
put k kq = kqueue_of (with_knote k kq.knotes) (queue_for k kq.queue)

pub place-requires : goal.place-requires
place-requires c =
    let k = c.args.knote in
    let ks = c.self.inside.knotes.knotes in
    let there = ap (λ (v : OwnedKqueue). find_knote k.key v.kq.knotes) c.self.view_is ∙ c.requires.there in
    ap (λ (now : List Knote). is_some (find_knote k.key now)) c.modify_at.ensures.knotes
    ∙ ap is_some (found-put k c.args.found.now.row ks there)

pub invariant_of-self : goal.invariant_of-self
invariant_of-self c =
    let k = c.args.knote in
    let kq = kqueue_in c.self.inside.knotes in
    let there = ap (λ (v : OwnedKqueue). find_knote k.key v.kq.knotes) c.self.view_is ∙ c.requires.there in
    IsSound-at c.place.new.knotes.knotes c.place.new.knotes.queue (put k kq) (c.place.ensures.knotes ∙ c.modify_at.ensures.knotes)
    (c.place.ensures.queue ∙ ap (queue_for k) c.modify_at.ensures.queue)
    (IsSound-put_back kq k c.args.found.now.row c.self.invariant there c.requires.active)

pub returns-clause-kq : goal.returns-clause-kq
returns-clause-kq c =
    let k = c.args.knote in
    same_kqueue c.place.new.knotes.knotes c.place.new.knotes.queue (put k (kqueue_in c.self.inside.knotes))
    (c.place.ensures.knotes ∙ c.modify_at.ensures.knotes) (c.place.ensures.queue ∙ ap (queue_for k) c.modify_at.ensures.queue)
    ∙ ap (λ (v : OwnedKqueue). put k v.kq) c.self.view_is

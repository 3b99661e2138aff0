use Rattle.std.proofs.Common.{◌≡◌, List, not, filter, length, sym, subst, ap, ◌∙◌, arith}
use Rattle.kq_model.specs.declared.key.Key.{Key}
use Rattle.kq_model.specs.Close.{closed, is_of_number}
use Rattle.kq_model.specs.Kqueue.{IsSound}
use Rattle.kq_model.specs.Tallying.{tallying}
use Rattle.kq_model.specs.Tallied.{Knote, Kqueue}
use Rattle.kq_model.specs.WatchedNumbers.{WatchTheirNumbers}
use Rattle.kq_model.proofs.Tallied.{closed-tallied}
use Rattle.kq_model.proofs.WatchedNumbers.{closed-watched}
use Rattle.kq_kevent.specs.Owned.{OwnedKqueue, kqueue_in, limit}
use Rattle.kq_kevent.proofs.CloseLaws.{number_of, number-removed, IsSound-closed, fewer-left}
use Rattle.kq_kevent.proofs.RegisterLaws.{same_kqueue}
use Rattle.kq_kevent.proofs.kq.Kq.closed.Goals.{After-remove_descriptor}
use Rattle.kq_kevent.proofs.kq.Kq.closed.Goals as goal

-- what is left of the kqueue
left : (c : After-remove_descriptor) → kqueue_in c.remove_descriptor.new.self
    ≡ closed c.self.inside.owner (number_of c.self.inside.owner c.args.number) (kqueue_in c.self.inside.knotes)
left c =
    let kq = kqueue_in c.self.inside.knotes in
    let now = c.remove_descriptor.new.self in
    same_kqueue now.knotes now.queue (record {
      knotes = filter (λ (k : Knote). not (is_of_number c.args.number k.key)) kq.knotes;
      queue = filter (λ (key : Key). not (is_of_number c.args.number key)) kq.queue;
    }) c.remove_descriptor.ensures.knotes c.remove_descriptor.ensures.queue
    ∙ number-removed c.self.inside.owner c.args.number kq

pub invariant_of-self : goal.invariant_of-self
invariant_of-self c =
    subst IsSound (sym (left c)) (IsSound-closed c.self.inside.owner c.args.number (kqueue_in c.self.inside.knotes) c.self.invariant)

pub returns-clause-kq : goal.returns-clause-kq
returns-clause-kq c =
    left c ∙ ap (λ (v : OwnedKqueue). closed v.owner (number_of v.owner c.args.number) v.kq) c.self.view_is

pub returns-clause-named : goal.returns-clause-named
returns-clause-named c = λ before after leaves watch.
    let owner = c.args.self.now.owner in
    subst (λ (kq : Kqueue). WatchTheirNumbers after owner kq) (sym (returns-clause-kq c))
    (closed-watched tallying before after owner (number_of owner c.args.number) c.args.self.now.kq leaves watch)

pub returns-clause-model : goal.returns-clause-model
returns-clause-model c = λ m same.
    let owner = c.args.self.now.owner in
    returns-clause-kq c ∙ closed-tallied c.args.self.now.kq m same owner (number_of owner c.args.number)

pub returns-clause-room : goal.returns-clause-room
returns-clause-room c =
    omega (
      arith,
      c.remove_descriptor.ensures.limit,
      ap (length {A = Knote}) c.remove_descriptor.ensures.knotes,
      fewer-left (λ (k : Knote). not (is_of_number c.args.number k.key)) c.self.inside.knotes.knotes,
      ap (λ (v : OwnedKqueue). v.room) c.self.view_is,
    )

pub returns-clause-limit : goal.returns-clause-limit
returns-clause-limit c = omega (arith, c.remove_descriptor.ensures.limit, ap limit c.self.view_is)

use Rattle.std.proofs.Common.{length, ap, arith}
use Rattle.kq_model.specs.Registration.{with_removed}
use Rattle.kq_model.specs.Tallied.{Knote}
use Rattle.kq_kevent.specs.Owned.{OwnedKqueue, kqueue_in, limit}
use Rattle.kq_knote.proofs.CountLaws.{length-without_knote}
use Rattle.kq_kevent.proofs.RegisterLaws.{IsSound-at}
use Rattle.kq_kevent.proofs.SoundLaws.{IsSound-removed}
use Rattle.kq_kevent.proofs.kq.Kq.unmake_at.Goals as goal

pub invariant_of-self : goal.invariant_of-self
invariant_of-self c =
    let kq = kqueue_in c.self.inside.knotes in
    IsSound-at c.remove_at.new.self.knotes c.remove_at.new.self.queue (with_removed c.args.key kq) c.remove_at.ensures.knotes
    c.remove_at.ensures.queue (IsSound-removed kq c.args.key c.self.invariant)

pub returns-clause-room : goal.returns-clause-room
returns-clause-room c =
    omega (
      arith,
      c.remove_at.ensures.limit,
      ap (length {A = Knote}) c.remove_at.ensures.knotes,
      length-without_knote c.args.key c.self.inside.knotes.knotes,
      ap (λ (v : OwnedKqueue). v.room) c.self.view_is,
    )

pub returns-clause-limit : goal.returns-clause-limit
returns-clause-limit c = omega (arith, c.remove_at.ensures.limit, ap limit c.self.view_is)

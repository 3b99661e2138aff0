use Rattle.std.proofs.Common.{ap, ◌∙◌}
use Rattle.kq_model.specs.Knote.{with_knote}
use Rattle.kq_model.specs.Registration.{queue_for}
use Rattle.kq_model.specs.Tallied.{Knote}
use Rattle.kq_kevent.proofs.RingWalk.{rung-stands}
use Rattle.kq_kevent.proofs.TurnLaws.{kqueue_of}
use Rattle.kq_kevent.proofs.kq.Kq.ring.Goals as goal

pub put_back-requires : goal.put_back-requires
put_back-requires c = rung-stands c.args.from c.args.to c.args.found.now.row c.ring.new.self c.args.self.now.kq.knotes c.ring.ensures c.requires.there

pub returns-clause-kq : goal.returns-clause-kq
returns-clause-kq c =
    c.put_back.ensures.kq
    ∙ ap (λ (k : Knote). kqueue_of (with_knote k c.args.self.now.kq.knotes) (queue_for k c.args.self.now.kq.queue)) c.ring.ensures

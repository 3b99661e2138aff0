use Rattle.kq_model.specs.Kqueue.{empty_kqueue}
use Rattle.kq_kevent.proofs.RegisterLaws.{IsSound-at}
use Rattle.kq_kevent.proofs.SoundLaws.{IsSound-empty}
use Rattle.kq_kevent.proofs.kq.Kq.in_version.Goals as goal

pub invariant_of-result : goal.invariant_of-result
invariant_of-result c =
    IsSound-at c.new.result.knotes c.new.result.queue empty_kqueue c.new.ensures.knotes c.new.ensures.queue IsSound-empty

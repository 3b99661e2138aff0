use Rattle.kq_system.proofs.PlainPlans.{other, other-plain}
use Rattle.kq_system.proofs.system.System.step.Goals as goal

pub happen-requires : goal.happen-requires
happen-requires c = record {
  applied = c.requires;
  plain = other-plain c.args.event.now (other c.args.event.now c.in_default.not-Kqueue
      (λ pid fd changes room is. c.in_default.not-Kevent pid fd changes room is)
      (λ ns is. c.in_default.not-Clock ns is));
  no_fork = λ pid child is. c.in_default.not-Fork pid child is;
}

use Rattle.std.proofs.Common.{subst}
use Rattle.kq_model.specs.Kqueue.{IsSound}
use Rattle.kq_knote.specs.Quiet.{AreLater}
use Rattle.kq_kevent.specs.Owned.{OwnedKqueue}
use Rattle.kq_kevent.proofs.ClockLaws.{quiet-clocked}
use Rattle.kq_kevent.proofs.kq.Kq.pass.Goals as goal

pub returns-then-is_quiet-clause-kq : goal.returns-then-is_quiet-clause-kq
returns-then-is_quiet-clause-kq c =
    let sound = subst (λ (v : OwnedKqueue). IsSound v.kq) c.self.view_is c.self.invariant in
    let later = subst (λ (v : OwnedKqueue). AreLater c.args.from c.args.to v.kq.knotes) c.self.view_is (c.is_quiet.ensures c.if-is_quiet.true) in
    quiet-clocked c.args.from c.args.to c.args.self.now.kq sound c.requires.ordered c.requires.within later

pub returns-then-is_quiet-clause-sound : goal.returns-then-is_quiet-clause-sound
returns-then-is_quiet-clause-sound c = subst (λ (v : OwnedKqueue). IsSound v.kq) c.self.view_is c.self.invariant

pub returns-clause-kq : goal.returns-clause-kq
returns-clause-kq c = c.ring_due.ensures.kq

pub returns-clause-sound : goal.returns-clause-sound
returns-clause-sound c = subst (λ (v : OwnedKqueue). IsSound v.kq) c.self.view_is c.self.invariant

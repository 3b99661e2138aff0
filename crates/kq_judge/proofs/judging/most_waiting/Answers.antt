use Rattle.std.proofs.Common.{length, ap, arith}
use Rattle.kq_model.specs.Tallied.{Knote}
use Rattle.kq_kevent.proofs.SoundLaws.{length-queue}
use Rattle.kq_judge.proofs.judging.most_waiting.Goals as goal

pub returns-clause-most : goal.returns-clause-most
returns-clause-most c =
    let fewer = length-queue c.args.kq.now.kq c.knotes.ensures.sound in
    omega (arith, ap (length {A = Knote}) c.knotes.ensures.knotes)

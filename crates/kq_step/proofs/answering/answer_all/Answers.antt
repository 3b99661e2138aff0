-- Without a reader nothing is answered.
use Rattle.kq_step.proofs.SoFar.{nothing_answered}
use Rattle.kq_step.proofs.answering.answer_all.Goals as goal

pub returns-in-Err-clause-fault : goal.returns-in-Err-clause-fault
returns-in-Err-clause-fault g c = nothing_answered (g.I.Read.remaining c.args.input.now) (g.O.Write.contents c.args.out.now)

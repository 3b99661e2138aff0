use Rattle.kq_model.specs.Call.{process}
use Rattle.kq_laws.proofs.polling.poll.Goals as goal

pub returns-clause-answer : goal.returns-clause-answer
unfolding process
returns-clause-answer g c = c.call.ensures.answer

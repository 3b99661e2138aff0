-- A call that has no answer.
use Rattle.std.proofs.lemmas.Result.{IfOk-weaker}
use Rattle.kq_check.proofs.judging.read.Goals as goal

pub returns-in-None-clause-read : goal.returns-in-None-clause-read
returns-in-None-clause-read c =
    rw c.in-None.is (IfOk-weaker c.read_unanswered.result _ _ (λ t said. said c.args.ignored.now) c.read_unanswered.ensures.read)

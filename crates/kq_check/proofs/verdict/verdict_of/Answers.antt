-- A possible reply without an answer, with one that it is, and with another one.
use Rattle.kq_check.proofs.PlainSteps.{right, unanswered, wrong}
use Rattle.kq_check.proofs.verdict.verdict_of.Goals as goal

pub returns-in-None : goal.returns-in-None
returns-in-None c = rw c.in-None.is (unanswered c.args.reply.now c.in_default.not-Impossible)

pub returns-then-is_reply : goal.returns-then-is_reply
returns-then-is_reply c =
    rw c.in-Some.is (right c.args.reply.now c.in-Some.given.now c.in_default.not-Impossible c.if-is_reply.ensures)

pub returns-else-is_reply : goal.returns-else-is_reply
returns-else-is_reply c =
    rw c.in-Some.is (wrong c.args.reply.now c.in-Some.given.now c.in_default.not-Impossible c.if-is_reply.ensures)

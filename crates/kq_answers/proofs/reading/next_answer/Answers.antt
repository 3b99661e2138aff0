-- A line out of order, and one that is no row.
use Rattle.std.proofs.Common.{rules}
use Rattle.kq_answers.proofs.Lines.{no_row, out_of_order}
use Rattle.kq_answers.proofs.reading.next_answer.Goals as goal

pub returns-else-before-answer-clause-bad : goal.returns-else-before-answer-clause-bad
returns-else-before-answer-clause-bad c =
    out_of_order c.args.number c.args.before c.args.line.now c.in-Ok-Answer.answer (search rules) c.if-before-answer.false

pub returns-in-Err-clause-bad : goal.returns-in-Err-clause-bad
returns-in-Err-clause-bad c = no_row c.args.number c.args.before c.args.line.now c.in-Err.fault (search rules)

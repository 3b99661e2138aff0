-- Rows are read again, however the line ends.
use Rattle.kq_answers.proofs.RowAgain.{rows_again}
use Rattle.kq_answers.proofs.line.answer_on.Goals as goal

pub returns-in-Some-clause-again : goal.returns-in-Some-clause-again
returns-in-Some-clause-again c = rows_again c.args.number c.args.line.now

pub returns-in-None-clause-again : goal.returns-in-None-clause-again
returns-in-None-clause-again c = rows_again c.args.number c.args.line.now

pub returns-in_err-value-clause-again : goal.returns-in_err-value-clause-again
returns-in_err-value-clause-again c = rows_again c.args.number c.args.line.now

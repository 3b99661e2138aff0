use Rattle.std.proofs.lemmas.Result.{on_ok_weaker}
use Rattle.kq_text.proofs.Appends.{as_text}
use Rattle.kq_step.proofs.AnswerTexts.{no_row, row_line}
use Rattle.kq_step.proofs.text.put_replied.Goals as goal

pub returns-in-Done : goal.returns-in-Done
returns-in-Done c = on_ok_weaker c.put_place.result (as_text (no_row c.args.at c.args.reply.now c.in-Done.is)) c.put_place.ensures

pub returns-in_default : goal.returns-in_default
returns-in_default c = on_ok_weaker c.put_reply.result (as_text (row_line c.args.at c.args.reply.now c.in_default.not-Done)) c.put_reply.ensures

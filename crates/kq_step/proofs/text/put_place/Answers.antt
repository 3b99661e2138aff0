use Rattle.std.proofs.lemmas.Result.{on_ok_weaker}
use Rattle.kq_text.proofs.Appends.{and_then, as_text}
use Rattle.kq_step.proofs.AnswerTexts.{place_line-is}
use Rattle.kq_step.proofs.text.put_place.Goals as goal

pub returns : goal.returns
returns c = on_ok_weaker c.put-2.result
    (λ end. as_text (place_line-is c.args.at) (and_then c.in_ok-put.ensures (and_then c.in_ok-put_number.ensures end)))
    c.put-2.ensures

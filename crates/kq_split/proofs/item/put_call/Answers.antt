use Rattle.std.proofs.lemmas.Result.{on_ok_weaker}
use Rattle.kq_text.proofs.Appends.{and_then, as_text}
use Rattle.kq_split.proofs.Spelled.{call-is}
use Rattle.kq_split.proofs.item.put_call.Goals as goal

pub returns : goal.returns
returns c = on_ok_weaker c.put-3.result
    (λ end. as_text (call-is c.args.place c.args.kqueue)
    (and_then c.in_ok-put.ensures (and_then c.in_ok-put_number.ensures (and_then c.in_ok-put-2.ensures (and_then c.in_ok-put_number-2.ensures end)))))
    c.put-3.ensures

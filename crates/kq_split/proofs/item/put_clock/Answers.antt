use Rattle.std.proofs.lemmas.Result.{on_ok_weaker}
use Rattle.kq_text.proofs.Appends.{and_then, as_text}
use Rattle.kq_split.proofs.Spelled.{clock-is}
use Rattle.kq_split.proofs.item.put_clock.Goals as goal

pub returns : goal.returns
returns c = on_ok_weaker c.put-4.result
    (λ end. as_text (clock-is c.args.place c.args.from c.args.to)
    (and_then c.in_ok-put.ensures (and_then c.in_ok-put_number.ensures (and_then c.in_ok-put-2.ensures (and_then c.in_ok-put_number-2.ensures (and_then c.in_ok-put-3.ensures (and_then c.in_ok-put_number-3.ensures end)))))))
    c.put-4.ensures

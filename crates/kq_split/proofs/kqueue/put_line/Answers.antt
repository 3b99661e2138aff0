use Rattle.std.proofs.Common.{subst}
use Rattle.std.specs.Prelude.{decimal}
use Rattle.std.proofs.lemmas.Result.{on_ok_weaker}
use Rattle.kq_text.specs.Adds.{Adds}
use Rattle.kq_text.proofs.Appends.{and_then, as_text}
use Rattle.kq_split.proofs.Spelled.{kqueue-is}
use Rattle.kq_split.proofs.kqueue.put_line.Goals as goal

pub returns : goal.returns
returns c =
    let calls = subst (λ n. Adds c.put-2.new.out.items (decimal n) c.put_number-2.new.out.items) c.calls_among.ensures c.in_ok-put_number-2.ensures in
    on_ok_weaker c.put-6.result
    (λ end. as_text (kqueue-is c.args.place c.args.owner c.args.number c.args.items.now)
    (and_then c.in_ok-put.ensures (and_then c.in_ok-put_number.ensures (and_then c.in_ok-put-2.ensures (and_then calls
    (and_then c.in_ok-put-3.ensures (and_then c.in_ok-put_number-3.ensures (and_then c.in_ok-put-4.ensures (and_then c.in_ok-put_number-4.ensures
    (and_then c.in_ok-put-5.ensures (and_then c.in_ok-put_number-5.ensures end)))))))))))
    c.put-6.ensures

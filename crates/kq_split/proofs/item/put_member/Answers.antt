use Rattle.std.proofs.lemmas.Result.{on_ok_weaker}
use Rattle.kq_text.proofs.Appends.{and_then}
use Rattle.kq_split.proofs.item.put_member.Goals as goal

pub returns : goal.returns
returns g c = on_ok_weaker c.put-2.result (λ end. and_then c.in_ok-put.ensures (and_then c.in_ok-put_number.ensures end)) c.put-2.ensures

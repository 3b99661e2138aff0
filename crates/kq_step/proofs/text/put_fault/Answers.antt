use Rattle.std.proofs.Common.{subst}
use Rattle.std.proofs.lemmas.Result.{on_ok_weaker}
use Rattle.kq_text.specs.Adds.{Adds}
use Rattle.kq_text.proofs.Appends.{and_then, as_text}
use Rattle.kq_step.proofs.AnswerTexts.{fault_line-is}
use Rattle.kq_step.proofs.text.put_fault.Goals as goal

pub returns : goal.returns
returns c =
    let name = subst (λ name. Adds c.put-2.new.out.items name c.put-3.new.out.items) c.name.ensures c.in_ok-put-3.ensures in
    on_ok_weaker c.put-4.result
    (λ end. as_text (fault_line-is c.args.line c.args.fault)
    (and_then c.in_ok-put.ensures (and_then c.in_ok-put_number.ensures (and_then c.in_ok-put-2.ensures (and_then name end)))))
    c.put-4.ensures

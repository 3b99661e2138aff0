use Rattle.std.proofs.lemmas.Result.{on_ok_weaker}
use Rattle.kq_text.proofs.Appends.{and_then, as_text}
use Rattle.kq_spell.proofs.MemberTexts.{whole_list}
use Rattle.kq_spell.proofs.members.put_list.Goals as goal

pub returns-clause-text : goal.returns-clause-text
returns-clause-text c = on_ok_weaker c.put_changes.result
    (λ end. as_text (whole_list c.args.changes.now) (and_then c.in_ok-put.ensures end)) c.put_changes.ensures.text

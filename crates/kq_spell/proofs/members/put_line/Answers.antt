use Rattle.std.proofs.Common.{refl}
use Rattle.std.proofs.lemmas.Result.{on_ok_weaker}
use Rattle.kq_model.specs.Spelling.{line_text}
use Rattle.kq_text.proofs.Appends.{and_then, as_text}
use Rattle.kq_spell.proofs.members.put_line.Goals as goal

pub returns-clause-text : goal.returns-clause-text
unfolding line_text
returns-clause-text c = on_ok_weaker c.put_members.result
    (λ end. as_text refl (and_then c.in_ok-put.ensures end)) c.put_members.ensures.text

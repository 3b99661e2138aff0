use Rattle.std.proofs.lemmas.Result.{on_ok_weaker}
use Rattle.kq_text.proofs.Appends.{and_then, as_text}
use Rattle.kq_spell.proofs.Words.{word_text}
use Rattle.kq_spell.proofs.members.put_name.Goals as goal

pub returns : goal.returns
returns c = on_ok_weaker c.put-3.result
    (λ end. as_text (word_text c.args.name.now c.requires) (and_then c.in_ok-put.ensures (and_then c.in_ok-put-2.ensures end)))
    c.put-3.ensures

use Rattle.std.proofs.lemmas.Result.{on_ok_weaker}
use Rattle.kq_text.proofs.Appends.{and_then, as_text}
use Rattle.kq_spell.proofs.LineTexts.{header_line}
use Rattle.kq_spell.proofs.spell.put_header.Goals as goal

pub returns : goal.returns
returns c = on_ok_weaker c.end_line.result
    (λ end. as_text (header_line c.args.version)
    (and_then c.in_ok-put.ensures (and_then c.in_ok-put_u32.ensures.text end)))
    c.end_line.ensures

use Rattle.std.proofs.Common.{w64, ◌∙◌, ap, rules, sym}
use Rattle.std.proofs.lemmas.Int.{to_z-of_z}
use Rattle.std.proofs.lemmas.Result.{on_ok_weaker}
use Rattle.std.specs.Fmt.{signed_decimal}
use Rattle.std.specs.Int.RustNames.{FitsSigned}
use Rattle.kq_text.proofs.Appends.{as_text}
use Rattle.kq_spell.proofs.LineTexts.{integer_fits, integer_text}
use Rattle.kq_spell.proofs.members.put_integer.Goals as goal

pub returns-clause-text : goal.returns-clause-text
returns-clause-text c =
    let fits : FitsSigned w64 c.args.number = search rules in
    let text = integer_text c.args.number ∙ ap signed_decimal (sym (to_z-of_z w64 c.args.number fits)) in
    on_ok_weaker c.put_i64.result (λ end. as_text text end) c.put_i64.ensures.text

pub returns-clause-fits : goal.returns-clause-fits
returns-clause-fits c =
    let fits : FitsSigned w64 c.args.number = search rules in
    integer_fits c.args.number fits

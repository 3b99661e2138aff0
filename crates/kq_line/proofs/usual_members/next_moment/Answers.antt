use Rattle.std.proofs.Common.{w64, ◌∙◌, arith, rules}
use Rattle.std.proofs.lemmas.Int.{to_z-of_z}
use Rattle.kq_line.proofs.MemberSteps.{line_value, moment_fits, signed_value}
use Rattle.kq_line.proofs.Parts.{nests_more}
use Rattle.kq_line.proofs.usual_members.next_moment.Goals as goal

pub returns-clause-value : goal.returns-clause-value
returns-clause-value g c = λ line ms up.
    let value = c.in_ok-behind_next_key.field-0.now in
    let number = c.in_ok-number in
    let signed = c.in_ok-signed in
    line_value line c.args.text.now value number.tail.now c.args.name.now ms _ c.requires up c.in_ok-behind_next_key.ensures.key
    (nests_more 0 3 value number.tail.now _ (omega arith)
    (signed_value value number.tail.now number.number _ number.ensures.fits number.ensures.cut (to_z-of_z w64 signed.field-0 (search rules) ∙ signed.ensures.value)))

pub returns-clause-fits : goal.returns-clause-fits
returns-clause-fits g c =
    let signed = c.in_ok-signed in
    moment_fits c.in_ok-number.number _ signed.ensures.fits (to_z-of_z w64 signed.field-0 (search rules) ∙ signed.ensures.value)

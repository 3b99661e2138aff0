-- The digits, and a minus before them or none.
use Rattle.std.proofs.Common.{◌≡◌, suc, ◌-◌, w64, ◌∙◌, arith, rules}
use Rattle.std.proofs.lemmas.Int.{to_z-of_z}
use Rattle.kq_line.proofs.MemberSteps.{far_fits, far_value, signed_fits, signed_value}
use Rattle.kq_line.proofs.usual_members.number_with_sign.Goals as goal

pub returns-in_ok-below-in-Some-clause-value : goal.returns-in_ok-below-in-Some-clause-value
returns-in_ok-below-in-Some-clause-value c =
    let number = c.in_ok-size-in-Some in
    let far = c.in_ok-below-in-Some in
    let is : number.size ≡ suc (number.size - 1) = omega arith in
    far_value c.args.text.now c.in-Some.digits.now number.tail.now number.size (number.size - 1) _ is far.ensures.fits
    c.in-Some.ensures.cut number.ensures.cut (to_z-of_z w64 far.field-0 (search rules) ∙ far.ensures.value)

pub returns-in_ok-below-in-Some-clause-fits : goal.returns-in_ok-below-in-Some-clause-fits
returns-in_ok-below-in-Some-clause-fits c =
    let far = c.in_ok-below-in-Some in
    far_fits (c.in_ok-size-in-Some.size - 1) _ (to_z-of_z w64 far.field-0 (search rules) ∙ far.ensures.value)

pub returns-in_ok-signed-in-None-clause-value : goal.returns-in_ok-signed-in-None-clause-value
returns-in_ok-signed-in-None-clause-value c =
    let number = c.in_ok-number-in-None in
    let signed = c.in_ok-signed-in-None in
    signed_value c.args.text.now number.tail.now number.number _ number.ensures.fits number.ensures.cut
    (to_z-of_z w64 signed.field-0 (search rules) ∙ signed.ensures.value)

pub returns-in_ok-signed-in-None-clause-fits : goal.returns-in_ok-signed-in-None-clause-fits
returns-in_ok-signed-in-None-clause-fits c =
    let signed = c.in_ok-signed-in-None in
    signed_fits c.in_ok-number-in-None.number _ signed.ensures.fits (to_z-of_z w64 signed.field-0 (search rules) ∙ signed.ensures.value)

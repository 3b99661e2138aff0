use Rattle.std.proofs.Common.{Some, refl, sym, ap, ◌∙◌}
use Rattle.kq_line.proofs.LookUps.{i64_or_far, i64_or_missing, i64_or_signed}
use Rattle.kq_line.proofs.found.Found.i64_or_zero.Goals as goal

pub returns-in-Some-Number : goal.returns-in-Some-Number
returns-in-Some-Number c =
    i64_or_signed c.args.self.now c.args.name.now c.in-Some-Number.number c.signed.result c.signed.ensures.value c.signed.ensures.fits
    (ap Some (sym c.in-Some-Number.field-0-is) ∙ c.in-Some-Number.ensures)

pub returns-in-Some-Below : goal.returns-in-Some-Below
returns-in-Some-Below c =
    i64_or_far c.args.self.now c.args.name.now c.in-Some-Below.far c.below.result c.below.ensures.value
    (ap Some (sym c.in-Some-Below.field-0-is) ∙ c.in-Some-Below.ensures)

pub returns-in-None : goal.returns-in-None
returns-in-None c = i64_or_missing c.args.self.now c.args.name.now _ refl c.in-None.ensures

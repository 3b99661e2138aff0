use Rattle.std.proofs.Common.{Some, sym, ap, ◌∙◌}
use Rattle.kq_line.proofs.SignedLookUps.{i64_far, i64_signed}
use Rattle.kq_line.proofs.found.Found.i64_at.Goals as goal

pub returns-in-Number : goal.returns-in-Number
returns-in-Number c =
    i64_signed c.args.self.now c.args.name.now c.in-Number.number c.signed.result c.signed.ensures.value c.signed.ensures.fits
    (ap Some (sym c.in-Number.is) ∙ c.in_ok-number.ensures)

pub returns-in-Below : goal.returns-in-Below
returns-in-Below c =
    i64_far c.args.self.now c.args.name.now c.in-Below.far c.below.result c.below.ensures.value (ap Some (sym c.in-Below.is) ∙ c.in_ok-number.ensures)

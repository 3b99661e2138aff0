use Rattle.std.proofs.Common.{Some, sym, ap, ◌∙◌}
use Rattle.kq_line.proofs.SignedLookUps.{moment_signed}
use Rattle.kq_line.proofs.found.Found.moment_at.Goals as goal

pub returns-in-Number : goal.returns-in-Number
returns-in-Number c =
    moment_signed c.args.self.now c.args.name.now c.in-Number.number c.signed.result c.signed.ensures.value c.signed.ensures.fits
    (ap Some (sym c.in-Number.is) ∙ c.in_ok-number.ensures)

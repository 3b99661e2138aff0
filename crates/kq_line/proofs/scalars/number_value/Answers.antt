use Rattle.kq_line.proofs.Scalar.{number_scalar}
use Rattle.kq_line.proofs.scalars.number_value.Goals as goal

pub returns-clause-value : goal.returns-clause-value
returns-clause-value c =
    number_scalar c.args.text.now c.in_ok-number.tail.now c.in_ok-number.number c.in_ok-number.ensures.fits c.in_ok-number.ensures.cut

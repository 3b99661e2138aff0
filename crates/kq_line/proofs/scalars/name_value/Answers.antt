use Rattle.std.proofs.Common.{refl}
use Rattle.kq_line.proofs.Scalar.{name_scalar}
use Rattle.kq_line.proofs.scalars.name_value.Goals as goal

pub returns-clause-value : goal.returns-clause-value
returns-clause-value c =
    name_scalar c.args.text.now c.in_ok-name.name.now c.in_ok-name.tail.now c.in_ok-name.name refl c.in_ok-name.ensures.name c.in_ok-name.ensures.cut

use Rattle.std.proofs.Common.{true, false, refl}
use Rattle.kq_line.proofs.Scalar.{truth_scalar}
use Rattle.kq_line.proofs.scalars.truth_value.Goals as goal

pub returns-in-Some-clause-value : goal.returns-in-Some-clause-value
returns-in-Some-clause-value c = truth_scalar c.args.text.now c.in-Some.tail.now true _ c.in-Some.ensures.cut refl

pub returns-clause-value : goal.returns-clause-value
returns-clause-value c = truth_scalar c.args.text.now c.in_ok-tail.tail.now false _ c.in_ok-tail.ensures.cut refl

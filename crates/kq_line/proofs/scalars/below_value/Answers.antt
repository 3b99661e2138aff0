use Rattle.std.proofs.Common.{◌≡◌, suc, ◌-◌, ◌^◌, ◌<◌, arith}
use Rattle.kq_line.proofs.Scalar.{below_scalar}
use Rattle.kq_line.proofs.scalars.below_value.Goals as goal

pub returns-clause-value : goal.returns-clause-value
returns-clause-value c =
    let size = c.in_ok-size.size in
    let is : size ≡ suc (size - 1) = omega arith in
    let fits : size - 1 < 2 ^ 63 = omega arith in
    below_scalar c.args.text.now c.in_ok-behind.field-0.now c.in_ok-size.tail.now size (size - 1) is fits c.in_ok-behind.ensures.cut c.in_ok-size.ensures.cut

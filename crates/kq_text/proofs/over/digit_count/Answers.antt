use Rattle.std.proofs.Common.{arith}
use Rattle.std.proofs.lemmas.Fmt.{length-decimal-le}
use Rattle.itoa.proofs.Decimal.{length_four}
use Rattle.kq_text.proofs.over.digit_count.Goals as goal

pub overflow_add-count : goal.overflow_add-count
overflow_add-count c =
    omega (
      arith,
      c.loop-rest.invariant,
      length_four c.loop-rest.rest c.loop-rest-test.true (omega arith),
      length-decimal-le 20 c.args.number (omega arith) (omega arith) (omega arith),
    )

pub loop-rest-preserved : goal.loop-rest-preserved
loop-rest-preserved c =
    omega (arith, c.loop-rest.invariant, length_four c.loop-rest.rest c.loop-rest-test.true (omega arith))

pub overflow_add-result : goal.overflow_add-result
overflow_add-result c =
    omega (
      arith,
      c.loop-rest.invariant,
      c.short_digit_count.ensures,
      length-decimal-le 20 c.args.number (omega arith) (omega arith) (omega arith),
    )

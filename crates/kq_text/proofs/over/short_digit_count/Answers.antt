use Rattle.std.proofs.Common.{◌/◌, sym, arith}
use Rattle.itoa.proofs.Decimal.{length_one, length_two, length_pair}
use Rattle.kq_text.proofs.over.short_digit_count.Goals as goal

pub returns-then-number-lt10 : goal.returns-then-number-lt10
returns-then-number-lt10 c = sym (length_one c.args.number c.if-number-lt10.true)

pub returns-else-number-lt10 : goal.returns-else-number-lt10
returns-else-number-lt10 c = sym (length_two c.args.number c.if-number-lt10.false c.if-number-lt100.true)

pub returns-then-number-lt1000 : goal.returns-then-number-lt1000
returns-then-number-lt1000 c =
    let n = c.args.number in
    omega (
      arith,
      length_pair n c.if-number-lt100.false (omega arith),
      length_one (n / 100)
          (omega (arith, c.if-number-lt1000.true)),
    )

pub returns-else-number-lt1000 : goal.returns-else-number-lt1000
returns-else-number-lt1000 c =
    let n = c.args.number in
    omega (
      arith,
      length_pair n c.if-number-lt100.false (omega arith),
      length_two (n / 100)
          (omega (arith, c.if-number-lt1000.false)) (omega arith),
    )

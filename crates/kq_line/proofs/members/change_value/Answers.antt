use Rattle.kq_line.proofs.Parts.{flags_part, scalar_part}
use Rattle.kq_line.proofs.members.change_value.Goals as goal

pub returns-in_ok-flags-in-Some-clause-value : goal.returns-in_ok-flags-in-Some-clause-value
returns-in_ok-flags-in-Some-clause-value c =
    flags_part c.args.text.now c.in-Some.names.now c.in_ok-flags-in-Some.tail.now c.in_ok-flags-in-Some.flags c.in-Some.ensures.cut c.in_ok-flags-in-Some.ensures.value

pub returns-in-None-clause-value : goal.returns-in-None-clause-value
returns-in-None-clause-value c = scalar_part c.args.text.now c.scalar.result c.scalar.ensures.value

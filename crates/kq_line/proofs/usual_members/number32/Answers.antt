use Rattle.kq_line.proofs.MemberSteps.{u32_value}
use Rattle.kq_line.proofs.usual_members.number32.Goals as goal

pub returns-in-Ok-clause-value : goal.returns-in-Ok-clause-value
returns-in-Ok-clause-value c =
    u32_value c.args.text.now c.in_ok-number.tail.now c.in_ok-number.number c.in-Ok.number c.in_ok-number.ensures.fits c.in_ok-number.ensures.cut c.in-Ok.ensures.1

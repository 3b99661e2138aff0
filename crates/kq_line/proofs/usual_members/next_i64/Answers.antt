use Rattle.kq_line.specs.Usual.{whole}
use Rattle.kq_line.proofs.MemberSteps.{line_member}
use Rattle.kq_line.proofs.usual_members.next_i64.Goals as goal

pub returns-clause-value : goal.returns-clause-value
returns-clause-value g c =
    line_member whole c.args.text.now c.in_ok-behind_next_key.field-0.now c.args.name.now c.number_with_sign.result c.requires
    c.in_ok-behind_next_key.ensures.key c.number_with_sign.ensures.value

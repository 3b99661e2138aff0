use Rattle.std.proofs.Common.{pos, refl}
use Rattle.kq_model.specs.Members.{i64_in}
use Rattle.kq_line.specs.Usual.{whole}
use Rattle.kq_line.proofs.MemberSteps.{change_number}
use Rattle.kq_line.proofs.usual_members.next_i64_or_zero.Goals as goal

pub returns-in-Some-clause-value : goal.returns-in-Some-clause-value
returns-in-Some-clause-value g c =
    change_number (pos 0) whole c.args.text.now c.in-Some.value.now c.args.name.now c.number_with_sign.result c.requires
    c.in-Some.ensures.key c.number_with_sign.ensures.value

pub returns-in-None-clause-fits : goal.returns-in-None-clause-fits
unfolding i64_in
returns-in-None-clause-fits g c = refl

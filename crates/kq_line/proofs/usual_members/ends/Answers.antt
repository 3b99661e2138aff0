use Rattle.std.proofs.Common.{◌≡◌, length, rules, tests}
use Rattle.kq_line.proofs.MemberSteps.{line_ends}
use Rattle.kq_line.proofs.usual_members.ends.Goals as goal

pub returns-then-is_empty : goal.returns-then-is_empty
returns-then-is_empty c =
    let none : length c.in_ok-tail.tail.now ≡ 0 = search (rules, tests) in
    λ line ms up. line_ends line c.args.text.now c.in_ok-tail.tail.now ms up c.in_ok-tail.ensures.cut none

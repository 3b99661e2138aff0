use Rattle.std.proofs.Common.{ℕ}
use Rattle.serde_json.specs.Data.{number, unsigned}
use Rattle.kq_line.proofs.MemberSteps.{change_number}
use Rattle.kq_line.proofs.usual_members.next_u32_or_zero.Goals as goal

pub returns-in-Some-clause-value : goal.returns-in-Some-clause-value
returns-in-Some-clause-value g c =
    change_number 0 (λ (n : ℕ). number (unsigned n)) c.args.text.now c.in-Some.value.now c.args.name.now c.number32.result c.requires
    c.in-Some.ensures.key c.number32.ensures.value

use Rattle.std.proofs.Common.{ℕ}
use Rattle.serde_json.specs.Data.{number, unsigned}
use Rattle.kq_line.proofs.MemberSteps.{line_member}
use Rattle.kq_line.proofs.usual_members.next_u32.Goals as goal

pub returns-clause-value : goal.returns-clause-value
returns-clause-value g c =
    line_member (λ (n : ℕ). number (unsigned n)) c.args.text.now c.in_ok-behind_next_key.field-0.now c.args.name.now c.number32.result c.requires
    c.in_ok-behind_next_key.ensures.key c.number32.ensures.value

use Rattle.std.proofs.Common.{ℕ}
use Rattle.serde_json.specs.Data.{number, unsigned}
use Rattle.kq_line.proofs.MemberSteps.{change_number, number_read}
use Rattle.kq_line.proofs.usual_members.next_u64_or_zero.Goals as goal

pub returns-in-Some-clause-value : goal.returns-in-Some-clause-value
returns-in-Some-clause-value g c =
    change_number 0 (λ (n : ℕ). number (unsigned n)) c.args.text.now c.in-Some.value.now c.args.name.now c.number.result c.requires
    c.in-Some.ensures.key (number_read c.in-Some.value.now c.number.result c.number.ensures.cut c.number.ensures.fits)

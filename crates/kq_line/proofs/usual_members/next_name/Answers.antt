use Rattle.std.proofs.Common.{ℕ, List, Bor}
use Rattle.serde_json.specs.Data.{string}
use Rattle.kq_line.proofs.MemberSteps.{line_member, name_read}
use Rattle.kq_line.proofs.usual_members.next_name.Goals as goal

pub returns : goal.returns
returns g c =
    let value = c.in_ok-behind_next_key.field-0.now in
    line_member (λ (s : Bor (List ℕ)). string s.now) c.args.text.now value c.args.key.now c.quoted.result c.requires
    c.in_ok-behind_next_key.ensures.key (name_read value c.quoted.result c.quoted.ensures.cut c.quoted.ensures.name)

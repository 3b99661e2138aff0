-- The first member names the kind.
use Rattle.std.proofs.Common.{codes, refl, arith}
use Rattle.serde_json.specs.Data.{string}
use Rattle.kq_line.proofs.MemberSteps.{first_member}
use Rattle.kq_line.proofs.Parts.{nests_more}
use Rattle.kq_line.proofs.Scalar.{name_value}
use Rattle.kq_line.proofs.usual.kind_first.Goals as goal

pub returns : goal.returns
returns c =
    let start = c.in_ok-behind.field-0.now in
    let value = c.in_ok-behind_key.field-0.now in
    let op = c.in_ok-name.name.now in
    let tail = c.in_ok-name.rest.now in
    let is = name_value value op tail c.in_ok-name.ensures.name c.in_ok-name.ensures.cut in (
      op,
      c.in_ok-kind_named.ensures,
      record {
        start = start;
        brace = c.in_ok-behind.ensures.cut;
        members = first_member 3 start value tail (codes "op") (string op) refl c.in_ok-behind_key.ensures.key (nests_more 0 3 value tail (string op) (omega arith) is);
      },
    )

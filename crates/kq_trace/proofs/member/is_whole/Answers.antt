-- The two tests are the two sides of `found_whole`.
use Rattle.serde_json.specs.View.{view}
use Rattle.kq_trace.proofs.Found.{whole_there, signed_there}
use Rattle.kq_trace.proofs.member.is_whole.Goals as goal

pub returns-then-is_u64 : goal.returns-then-is_u64
returns-then-is_u64 c = whole_there (view c.args.value.now) c.is_u64.result c.if-is_u64.true c.is_u64.ensures

pub returns-else-is_u64 : goal.returns-else-is_u64
returns-else-is_u64 c =
    signed_there (view c.args.value.now) c.is_u64.result c.is_i64.result c.if-is_u64.false c.is_u64.ensures c.is_i64.ensures

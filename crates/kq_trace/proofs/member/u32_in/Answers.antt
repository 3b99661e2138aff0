-- The number of 64 bits, where it fits 32.
use Rattle.std.proofs.Common.{◌∙◌}
use Rattle.serde_json.specs.View.{view}
use Rattle.kq_trace.proofs.Found.{narrow, no_u32}
use Rattle.kq_trace.proofs.member.u32_in.Goals as goal

pub returns-in-Some : goal.returns-in-Some
returns-in-Some c =
    c.ok.ensures.value ∙ narrow (view c.args.value.now) c.in-Some.number c.try_from.result c.try_from.ensures c.in-Some.ensures

pub returns-in-None : goal.returns-in-None
returns-in-None c = no_u32 (view c.args.value.now) c.in-None.ensures

-- All came, so the bad line is one of the whole input.
use Rattle.std.proofs.Common.{◌≡◌, rules, subst}
use Rattle.kq_trace.specs.declared.fault.TraceError.TheVariants as trace
use Rattle.kq_trace.specs.declared.input_error.InputError.TheVariants as input
use Rattle.kq_trace.specs.Blocks.{IsFaultSoFar}
use Rattle.kq_trace.proofs.BlocksRead.{fault_on}
use Rattle.kq_trace.proofs.reading.once_all_came.Goals as goal

pub returns-in-Ok : goal.returns-in-Ok
returns-in-Ok g c = λ start so_far.
    let before = g.S.Source.ahead c.args.source.now in
    let after = g.S.Source.ahead c.drain.new.source in
    let old = c.args.blocks.now in
    let bad = input.Trace (trace.Bad c.in-Trace-Bad.line c.in-Trace-Bad.fault) in
    let is : c.args.error ≡ bad = search rules in
    fault_on g.S.Source.may_fail start before after old c.drain.new.self c.in-Ok.ensures.drained bad (subst (IsFaultSoFar g.S.Source.may_fail start before old) is so_far)

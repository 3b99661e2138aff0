-- All bytes are lent, and the sink kept all events.
use Rattle.std.proofs.Common.{◌≡◌, length, rules, ap, arith}
use Rattle.kq_trace.specs.Faults.{IsFault}
use Rattle.kq_trace.proofs.LeastFault.{least_fault}
use Rattle.kq_trace.proofs.read.read_trace_with.Goals as goal

pub invariant_of-result : goal.invariant_of-result
invariant_of-result g c =
    let good = c.in-Ok.ensures.good in
    let events : c.from_vec.result ≡ good.0 = search rules in
    record {
      version_known = good.1.version_known;
      countable = omega (arith, good.1.few, ap length events);
    }

pub returns-in-Err-Trace-clause-least : goal.returns-in-Err-Trace-clause-least
returns-in-Err-Trace-clause-least g c =
    let fault : IsFault c.args.bytes.now c.in-Err-Trace.error = search rules in
    least_fault c.args.bytes.now c.in-Err-Trace.error fault

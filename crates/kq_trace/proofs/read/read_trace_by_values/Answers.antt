-- One event more, and the last.
use Rattle.std.proofs.Common.{◌≡◌, ◌++◌, ◌∷◌, ◌∙◌, [], arith, rules, ap, length, length-append}
use Rattle.kq_trace.specs.Unread.{IsReadOff}
use Rattle.kq_trace.proofs.TraceLines.{one_further}
use Rattle.kq_trace.proofs.read.read_trace_by_values.Goals as goal

pub records-preserved : goal.records-preserved
records-preserved g c =
    let off : IsReadOff c.in-Some.event c.records.reader c.next_event.new.self = rw c.in-Some.is at c.in_ok-event.ensures.next in
    let added : c.push.new.self.items ≡ c.records.events.items ++ c.in-Some.event ∷ [] = search rules in
    record {
      counted = omega (arith, off.line, ap length added ∙ length-append c.records.events.items (c.in-Some.event ∷ []), c.records.invariant.counted);
      in_limit = omega (arith, off.line, off.limit);
      so_far = one_further _ c.records.reader.meaning c.next_event.new.self.meaning c.records.events.items c.push.new.self.items c.in-Some.event
          c.records.invariant.so_far off.meaning added;
    }

pub invariant_of-result : goal.invariant_of-result
invariant_of-result g c = record {
  version_known = c.version.ensures.known;
  countable = omega (arith, ap length c.from_vec.ensures, c.records.invariant.counted, c.records.invariant.in_limit);
}

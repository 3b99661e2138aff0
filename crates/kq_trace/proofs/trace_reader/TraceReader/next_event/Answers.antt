-- The next line is read, or bad, or not there.
use Rattle.std.proofs.Common.{◌≡◌, ◌<◌, ◌≤◌, length, ◌∙◌, refl, rules, tests}
use Rattle.kq_trace.proofs.TraceLines.{empty_list, later_bad, later_good, no_line}
use Rattle.kq_trace.proofs.trace_reader.TraceReader.next_event.Goals as goal

pub returns-then-is_empty-clause-next : goal.returns-then-is_empty-clause-next
returns-then-is_empty-clause-next c =
    let r = c.self.inside in
    let none : length r.rest.now ≡ 0 = search (rules, tests) in
    rw (← c.self.view_is) (no_line r.rest.now r.version r.number (empty_list _ none))

pub returns-in-Ok-clause-next : goal.returns-in-Ok-clause-next
returns-in-Ok-clause-next c =
    let r = c.self.inside in
    let some : 0 < length r.rest.now = search (rules, tests) in
    let below : r.number ≤ 1000001 = rw c.in-Ok.is at c.in_ok-event.ensures.limit in
    rw (← c.self.view_is) (record {
      meaning = later_good r.rest.now _ _ r.version r.number c.in-Ok.event (c.first_line.ensures.later some)
          (c.in_ok-event.ensures.record ∙ c.in-Ok.is);
      line = refl;
      limit = below;
    })

pub returns-in-Err-clause-bad : goal.returns-in-Err-clause-bad
returns-in-Err-clause-bad c =
    let r = c.self.inside in
    let some : 0 < length r.rest.now = search (rules, tests) in
    rw (← c.self.view_is)
    (later_bad r.rest.now _ _ r.version r.number c.in-Err.fault (c.first_line.ensures.later some) (c.in_ok-event.ensures.record ∙ c.in-Err.is))

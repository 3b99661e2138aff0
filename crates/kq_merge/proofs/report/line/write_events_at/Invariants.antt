-- The events so far, and room for those ahead.
use Rattle.std.proofs.Common.{◌≡◌, ◌≤◌, ◌+◌, ◌*◌, ◌++◌, drop, false, take}
use Rattle.kq_merge.specs.EventsText.{events_text}
use Rattle.kq_merge.proofs.report.line.write_events_at.Given as goal

abbrev pub invariant-loop-event : goal.invariant-loop-event
invariant-loop-event l = record {
  text : take l.end l.out ++ events_text l.is_later (drop l.event-index l.events)
      ≡ take l.start l.fn.out ++ events_text false l.events;
  room : l.end ≤ l.start + 256 * l.event-index;
}

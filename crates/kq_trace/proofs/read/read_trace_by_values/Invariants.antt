-- The events so far stand before what the lines ahead mean.
use Rattle.std.proofs.Common.{◌≡◌, ◌≤◌, ◌+◌, ◌-◌, length}
use Rattle.kq_model.specs.Reading.{reading}
use Rattle.kq_trace.specs.Unread.{behind_events}
use Rattle.kq_trace.proofs.read.read_trace_by_values.Given as goal

abbrev pub invariant-records : goal.invariant-records
invariant-records g l = record {
  counted : length l.events.items + 2 ≡ l.reader.line;
  in_limit : l.reader.line ≤ 1000002;
  so_far : reading l.bytes ≡ behind_events l.events.items l.reader.meaning;
}

abbrev pub decreases-records : goal.decreases-records
decreases-records g l = 1000002 - l.reader.line

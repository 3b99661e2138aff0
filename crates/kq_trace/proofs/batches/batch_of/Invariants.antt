-- The records of the lines so far.
use Rattle.std.proofs.Common.{◌≡◌, ◌≤◌, length}
use Rattle.kq_trace.proofs.BatchLines.{AreReadTo}
use Rattle.kq_trace.proofs.batches.batch_of.Given as goal

abbrev pub invariant-loop-line : goal.invariant-loop-line
invariant-loop-line l = record {
  within : l.line-index ≤ length l.lines;
  counted : length l.events.items ≡ l.line-index;
  so_far : AreReadTo l.lines l.line-index l.events.items;
}

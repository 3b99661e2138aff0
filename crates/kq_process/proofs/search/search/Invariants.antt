use Rattle.std.proofs.Common.{◌-◌, ◌≤◌, length}
use Rattle.kq_process.proofs.Places.{AreHigher, AreLower}
use Rattle.kq_process.proofs.search.search.Given as goal

abbrev pub invariant-loop-low : goal.invariant-loop-low
invariant-loop-low g l = record {
  ordered : l.low ≤ l.high;
  within : l.high ≤ length l.entries;
  lower : AreLower l.number l.entries l.low;
  higher : AreHigher l.number l.entries l.high;
}

abbrev pub decreases-loop-low : goal.decreases-loop-low
decreases-loop-low g l = l.high - l.low

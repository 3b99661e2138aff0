use Rattle.std.proofs.Common.{◌≤◌}
use Rattle.kq_kevent.proofs.call.timers_in.Given as goal

abbrev pub invariant-loop-change : goal.invariant-loop-change
invariant-loop-change l = record {
  few : l.timers ≤ l.change-index;
}

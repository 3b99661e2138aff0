-- The seat stays this live system's.
use Rattle.std.proofs.Common.{◌≡◌}
use Rattle.library_tests.proofs.live.tries.hundred.Given as goal

abbrev pub invariant-loop : goal.invariant-loop
invariant-loop l = l.seat.lock ≡ l.live.lock

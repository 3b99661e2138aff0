-- The seat stays this lock's.
use Rattle.std.proofs.Common.{◌≡◌}
use Rattle.library_tests.proofs.lock.many.hundred.Given as goal

abbrev pub invariant-loop : goal.invariant-loop
invariant-loop g l = l.seat.lock ≡ l.lock

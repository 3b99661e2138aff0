use Rattle.std.proofs.Common.{◌≡◌}
use Rattle.library_tests.proofs.lock.single.assert_calls.Given as goal

-- the seat stays this lock's
abbrev pub invariant-loop-way : goal.invariant-loop-way
invariant-loop-way g l = l.seat.lock ≡ l.lock

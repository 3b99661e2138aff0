-- The seat stays this live system's.
use Rattle.std.proofs.Common.{◌≡◌}
use Rattle.library_tests.proofs.live.calls.assert_worn_out.Given as goal

abbrev pub invariant-loop-place : goal.invariant-loop-place
invariant-loop-place g l = l.seat.lock ≡ l.live.lock

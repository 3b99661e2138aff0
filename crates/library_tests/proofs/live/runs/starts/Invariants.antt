-- One event for each process.
use Rattle.std.proofs.Common.{◌≡◌, vec_len}
use Rattle.library_tests.proofs.live.runs.starts.Given as goal

abbrev pub invariant-loop-before : goal.invariant-loop-before
invariant-loop-before l = vec_len l.events ≡ l.before

-- The callers that are left, and whether this level has begun.
use Rattle.std.proofs.Common.{◌+◌, ◌*◌}
use Rattle.library_tests.proofs.lock.crowd.+by_callers+fn-by_callers-join+arg3.Given as goal

abbrev pub decreases-join+arg3 : goal.decreases-join+arg3
decreases-join+arg3 g l = 2 * l.others + 1

abbrev pub decreases-by_callers : goal.decreases-by_callers
decreases-by_callers g l = 2 * l.callers

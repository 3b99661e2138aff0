-- The parts that are left, and whether this level has begun.
use Rattle.std.proofs.Common.{◌+◌, ◌*◌}
use Rattle.library_tests.proofs.live.tries.+by_parts+fn-by_parts-join+arg3.Given as goal

abbrev pub decreases-join+arg3 : goal.decreases-join+arg3
decreases-join+arg3 g l = 2 * l.others + 1

abbrev pub decreases-by_parts : goal.decreases-by_parts
decreases-by_parts g l = 2 * l.parts

-- The pieces that are still to be decoded, and whether this level has begun.
use Rattle.std.proofs.Common.{◌+◌, ◌*◌, length}
use Rattle.kq_trace.proofs.pieces.+batches_beside+fn-batches_beside-join+arg3.Given as goal

abbrev pub decreases-join+arg3 : goal.decreases-join+arg3
decreases-join+arg3 g l = 2 * length l.others.now + 1

abbrev pub decreases-batches_beside : goal.decreases-batches_beside
decreases-batches_beside g l = 2 * length l.pieces.now

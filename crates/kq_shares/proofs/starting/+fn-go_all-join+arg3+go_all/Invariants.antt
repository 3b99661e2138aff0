use Rattle.std.proofs.Common.{◌+◌, ◌*◌, length}
use Rattle.kq_shares.proofs.starting.+fn-go_all-join+arg3+go_all.Given as goal

-- the shares that have still to start, and whether this level has begun
abbrev pub decreases-join+arg3 : goal.decreases-join+arg3
decreases-join+arg3 g l = 2 * length l.shares.items + 1

abbrev pub decreases-go_all : goal.decreases-go_all
decreases-go_all g l = 2 * length l.shares.items

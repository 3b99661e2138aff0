use Rattle.std.proofs.Common.{rules}
use Rattle.kq_jobs.proofs.Drawing.{may_split}
use Rattle.kq_jobs.proofs.counter.ClaimCounter.split.Goals as goal

pub split_seat-token-requires : goal.split_seat-token-requires
split_seat-token-requires c = (
  search rules,
  search rules,
  may_split c.self.inside.table.shared.key _ c.seat.inside.token.me.0
      (search rules) (c.seat.invariant.3 (search rules)),
)

use Rattle.std.proofs.Common.{sym, subst}
use Rattle.kq_projection.specs.Traced.{event_at}
use Rattle.kq_projection.specs.LoneKqueue.{LoneKqueue}
use Rattle.kq_projection.specs.Recorded.{IsClockOf}
use Rattle.kq_projection.proofs.alone.lone_kqueue.LoneKqueue.clock.Goals as goal

pub moment-moment-requires : goal.moment-moment-requires
moment-moment-requires c = (
  c.args.from,
  subst (λ (a : LoneKqueue). IsClockOf (event_at a.trace a.place) c.args.from c.args.to) (sym c.in_ok-hear.ensures) c.requires,
)

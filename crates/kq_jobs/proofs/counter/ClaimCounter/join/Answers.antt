use Rattle.std.proofs.Common.{rules, subst, sym}
use Rattle.kq_jobs.specs.Claims.{IsAtMostOnce}
use Rattle.kq_jobs.specs.Handing.{DrewAll}
use Rattle.kq_jobs.proofs.Claiming.{claimed_once, claims_all}
use Rattle.kq_jobs.proofs.Drawing.{may_join, may_settle}
use Rattle.kq_jobs.proofs.counter.ClaimCounter.join.Goals as goal

pub join_seat-requires : goal.join_seat-requires
join_seat-requires c = (
  search rules,
  search rules,
  search rules,
  search rules,
  may_join c.self.inside.table.shared.key _ c.seat.inside.token.me.0 _ c.other.inside.token.me.0
      c.seat.invariant.1,
)

pub load-requires : goal.load-requires
load-requires c = (
  search rules,
  search rules,
  may_settle c.self.inside.table.shared.key _ _ c.join_seat.new.seat.me,
)

pub returns-clause-once : goal.returns-clause-once
returns-clause-once c = claimed_once c.load.new.seat.me.0
    (subst (λ z. IsAtMostOnce z.0.drawn) (sym c.load.ensures.2.0) c.load.ensures.2.1)

pub returns-clause-all : goal.returns-clause-all
returns-clause-all c all done = claims_all c.load.new.seat.me.0 c.args.self.now.count
    (search rules)
    (subst (λ z. DrewAll z.0) (sym c.load.ensures.2.0) c.load.ensures.2.2) all (search rules)

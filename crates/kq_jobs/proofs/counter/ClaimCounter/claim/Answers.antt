use Rattle.std.proofs.Common.{rules, ◌<◌, All, subst, arith}
use Rattle.kq_jobs.specs.Claims.{Claiming}
use Rattle.kq_jobs.proofs.Claiming.{claimed_below}
use Rattle.kq_jobs.proofs.Drawing.{may_draw}
use Rattle.kq_jobs.proofs.counter.ClaimCounter.claim.Goals as goal

pub fetch_add-number-requires : goal.fetch_add-number-requires
fetch_add-number-requires c =
    let most = c.self.invariant.2 in (
      search rules,
      search rules,
      may_draw c.self.inside.table.shared.key _ _ c.seat.inside.token.me (omega (arith, c.self.invariant.1))
          (search rules) c.seat.invariant.1 (c.seat.invariant.3 (search rules)),
    )

pub returns-then-number-self-clause-rises : goal.returns-then-number-self-clause-rises
returns-then-number-self-clause-rises c =
    let n = c.fetch_add-number.result in
    subst (λ (z : Claiming). All (λ m. m < n) z.numbers) c.seat.view_is
    (claimed_below c.seat.inside.token.me.0 n c.fetch_add-number.ensures.2.2)

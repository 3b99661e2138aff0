use Rattle.std.proofs.Common.{◌∙◌}
use Rattle.kq_system.proofs.HappenLemmas.{closed_end, closed_next}
use Rattle.kq_system.proofs.live.close.Goals as goal

pub loop-pair-preserved : goal.loop-pair-preserved
loop-pair-preserved c =
    let ps = c.args.pairs.now in
    let i = c.loop-pair.pair-index in (
      closed_next c.args.kq.now.owner c.loop-pair.kq.owner ps i c.loop-pair.kq.kq c.close_one.new.kq.kq
          c.loop-pair-test.true c.loop-pair.invariant.1 (0, 0) c.close_one.ensures.kq
          ∙ c.loop-pair.invariant.0,
      c.close_one.ensures.owner ∙ c.loop-pair.invariant.1,
      c.close_one.ensures.version ∙ c.loop-pair.invariant.2,
    )

pub returns-clause-kq : goal.returns-clause-kq
returns-clause-kq c =
    closed_end c.args.kq.now.owner c.args.pairs.now c.loop-pair.pair-index c.loop-pair.kq.kq c.loop-pair-test.false
    ∙ c.loop-pair.invariant.0

use Rattle.std.proofs.Common.{◌∙◌, sym}
use Rattle.kq_system.proofs.HappenLemmas.{pair_there, pair_passed, no_pair}
use Rattle.kq_system.proofs.live.is_closed.Goals as goal

pub loop-pair-preserved : goal.loop-pair-preserved
loop-pair-preserved c =
    pair_passed c.args.pid c.args.number c.args.pairs.now c.loop-pair.pair-index (0, 0) c.loop-pair-test.true
    (sym c.is_pair.ensures ∙ c.if-is_pair.false)
    ∙ c.loop-pair.invariant

pub returns-then-is_pair : goal.returns-then-is_pair
returns-then-is_pair c =
    sym (pair_there c.args.pid c.args.number c.args.pairs.now c.loop-pair.pair-index (0, 0) c.loop-pair-test.true
    (sym c.is_pair.ensures ∙ c.if-is_pair.true))
    ∙ c.loop-pair.invariant

pub returns : goal.returns
returns c =
    sym (no_pair c.args.pid c.args.number c.args.pairs.now c.loop-pair.pair-index c.loop-pair-test.false)
    ∙ c.loop-pair.invariant

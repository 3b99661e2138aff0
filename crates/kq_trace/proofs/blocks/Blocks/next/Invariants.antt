-- What came is in the block.
use Rattle.std.proofs.Common.{◌≡◌, [], suc, cond}
use Rattle.kq_trace.proofs.BlockSoFar.{IsPutSoFar}
use Rattle.kq_trace.proofs.blocks.Blocks.next.Given as goal

abbrev pub invariant-chunks : goal.invariant-chunks
invariant-chunks g l =
    IsPutSoFar (g.S.Source.ahead l.fn.source) (g.S.Source.ahead l.source) l.fn.self l.self.ended l.block.items
    × (l.self.tail.items ≡ [])

abbrev pub decreases-chunks : goal.decreases-chunks
decreases-chunks g l = cond l.self.ended 0 (suc (g.S.Source.ahead l.source).most)

-- What came is left out.
use Rattle.std.proofs.Common.{ℕ, List, suc, cond}
use Rattle.kq_trace.proofs.BlockSoFar.{AreTaken}
use Rattle.kq_trace.proofs.blocks.Blocks.drain.Given as goal

abbrev pub invariant-chunks : goal.invariant-chunks
invariant-chunks g l =
    (more : List ℕ) × AreTaken (g.S.Source.ahead l.initial.source) (g.S.Source.ahead l.source) l.initial.self l.self.ended more

abbrev pub decreases-chunks : goal.decreases-chunks
decreases-chunks g l = cond l.self.ended 0 (suc (g.S.Source.ahead l.source).most)

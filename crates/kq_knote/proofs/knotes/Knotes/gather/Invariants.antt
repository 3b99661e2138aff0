use Rattle.std.proofs.Common.{take}
use Rattle.kq_knote.specs.Index.{AreHinted}
use Rattle.kq_knote.proofs.knotes.Knotes.gather.Given as goal

abbrev pub invariant-loop-hint : goal.invariant-loop-hint
invariant-loop-hint l = record {
  so_far : AreHinted (take l.hint-index l.posted) l.fn.self.knotes l.found.items;
}

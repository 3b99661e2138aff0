use Rattle.std.proofs.Common.{take}
use Rattle.kq_process.specs.Effects.{pairs_in}
use Rattle.kq_system.specs.Showing.{AreShown, IsTold, asks_watching}
use Rattle.kq_system.proofs.showing.show_watching.Given as goal

abbrev pub invariant-loop-hint : goal.invariant-loop-hint
invariant-loop-hint g l =
    AreShown l.round (IsTold (pairs_in l.pairs) l.hints (g.V.Views.sees l.views)) (asks_watching l.watching.table (take l.hint-index l.hints))
    l.any l.fn.live.entries l.live.entries

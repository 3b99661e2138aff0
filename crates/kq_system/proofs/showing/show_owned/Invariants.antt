use Rattle.std.proofs.Common.{take}
use Rattle.kq_process.specs.Effects.{pairs_in}
use Rattle.kq_system.specs.Showing.{AreShown, IsTold, asks_owned}
use Rattle.kq_system.proofs.showing.show_owned.Given as goal

abbrev pub invariant-loop-pair : goal.invariant-loop-pair
invariant-loop-pair g l =
    AreShown l.round (IsTold (pairs_in l.pairs) l.hints (g.V.Views.sees l.views)) (asks_owned l.owned.table (take l.pair-index l.pairs))
    l.any l.fn.live.entries l.live.entries

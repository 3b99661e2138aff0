use Rattle.std.proofs.Common.{take}
use Rattle.kq_process.specs.Effects.{pairs_in}
use Rattle.kq_system.specs.Places.{has_place}
use Rattle.kq_system.specs.Showing.{AreShown, IsTold}
use Rattle.kq_system.proofs.showing.show_several.Given as goal

abbrev pub invariant-loop-place : goal.invariant-loop-place
invariant-loop-place g l =
    AreShown l.round (IsTold (pairs_in l.pairs) l.hints (g.V.Views.sees l.views))
    (λ p. has_place p (take l.place-index l.places)) l.any l.fn.live.entries l.live.entries

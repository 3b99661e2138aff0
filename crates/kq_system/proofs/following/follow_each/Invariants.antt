use Rattle.std.proofs.Common.{false, take}
use Rattle.kq_system.specs.Forking.{IsFollowing}
use Rattle.kq_system.specs.Places.{has_place}
use Rattle.kq_system.specs.Showing.{AreShown}
use Rattle.kq_system.proofs.following.follow_each.Given as goal

abbrev pub invariant-loop-place : goal.invariant-loop-place
invariant-loop-place g l =
    AreShown l.round (IsFollowing l.hints (g.V.Views.sees l.views)) (λ p. has_place p (take l.place-index l.places))
    false
    l.fn.live.entries l.live.entries

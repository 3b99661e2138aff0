use Rattle.std.proofs.Common.{false, take}
use Rattle.kq_system.specs.Places.{has_place}
use Rattle.kq_system.specs.Showing.{AreShown, IsRung}
use Rattle.kq_system.proofs.ticking.ring_each.Given as goal

abbrev pub invariant-loop-place : goal.invariant-loop-place
invariant-loop-place l =
    AreShown l.round (IsRung (record { from = l.from; to = l.to })) (λ p. has_place p (take l.place-index l.places)) false
    l.fn.live.entries l.live.entries

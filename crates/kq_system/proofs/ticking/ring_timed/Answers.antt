use Rattle.std.proofs.Common.{ℕ, List, false, subst}
use Rattle.kq_model.specs.Clock.{Span}
use Rattle.kq_system.specs.Places.{has_place}
use Rattle.kq_system.specs.Showing.{AreShown, IsRung}
use Rattle.kq_system.proofs.ticking.ring_timed.Goals as goal

pub returns : goal.returns
returns c =
    let span : Span = record { from = c.args.from; to = c.args.to } in
    subst (λ (ps : List ℕ). AreShown c.args.round (IsRung span) (λ p. has_place p ps) false c.args.live.now.entries
    c.ring_each.new.live.entries) c.at-places.ensures c.ring_each.ensures

use Rattle.std.proofs.Common.{◌≡◌, ◌+◌, length}
use Rattle.std.proofs.lemmas.Result.{on_ok_weaker}
use Rattle.kq_process.specs.World.{world_of}
use Rattle.kq_projection.specs.Traced.{Traced}
use Rattle.kq_projection.specs.Tracked.{IsTracked}
use Rattle.kq_projection.proofs.TrackedNext.{tracked-next}
use Rattle.kq_projection.proofs.history.tracking.track.Goals as goal

pub returns-clause-tracked : goal.returns-clause-tracked
returns-clause-tracked c =
    on_ok_weaker c.follow.result
    (λ followed (t : Traced) (at : length t.events + 1 ≡ c.args.place)
    (tracked : IsTracked t c.args.world.now c.args.seen.now).
    tracked-next t c.args.event.now c.args.place c.args.world.now c.apply_into.new.self c.args.seen.now
    c.follow.new.seen c.apply_into.new.effect at tracked
    c.in_ok-apply_into.ensures.last c.in_ok-apply_into.ensures.effect c.in_ok-apply_into.ensures.world
    (followed (world_of c.args.world.now))) c.follow.ensures

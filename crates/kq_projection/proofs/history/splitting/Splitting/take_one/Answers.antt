use Rattle.std.proofs.Common.{◌≡◌, ◌+◌, length, arith}
use Rattle.std.proofs.lemmas.Result.{on_ok_weaker}
use Rattle.kq_projection.specs.declared.history.splitting.Splitting.{Splitting}
use Rattle.kq_projection.specs.Splitting.{IsSplitSoFar}
use Rattle.kq_projection.specs.Traced.{Traced}
use Rattle.kq_projection.proofs.SplitNext.{one-each, places-rise}
use Rattle.kq_projection.proofs.SplittingNext.{split-next}
use Rattle.kq_projection.proofs.TrackedNext.{up-later}
use Rattle.kq_projection.proofs.history.splitting.Splitting.take_one.Goals as goal

pub track-requires-clause-places : goal.track-requires-clause-places
track-requires-clause-places c = omega (arith, c.requires.1, c.requires.2.tracked.after.last)

pub track-requires-clause-up_to : goal.track-requires-clause-up_to
track-requires-clause-up_to c = up-later (length c.requires.0.events) c.args.place c.args.self.now.seen (omega (arith, c.requires.1)) c.requires.2.tracked.up_to

pub hear-requires-clause-rising : goal.hear-requires-clause-rising
hear-requires-clause-rising c = places-rise c.requires.0 c.args.self.now.said.kqueues c.requires.2.said.kqueues

pub hear-requires-clause-one_each : goal.hear-requires-clause-one_each
hear-requires-clause-one_each c = one-each c.requires.0 c.args.self.now.said.kqueues c.requires.2.said.kqueues

pub returns : goal.returns
returns c =
    let new : Splitting = record {
      world = c.track.new.world;
      seen = c.track.new.seen;
      said = c.hear.new.self;
      plain = c.put_plain.new.plain;
      touched = c.track.new.touched;
      effect = c.track.new.effect;
    } in
    on_ok_weaker c.put_plain.result
    (λ rows (t : Traced) (at : length t.events + 1 ≡ c.args.place) (so_far : IsSplitSoFar t c.args.self.now).
    split-next t c.args.event.now c.args.place c.args.self.now new c.track.new.effect c.of-before_it.result.clock c.of-before_it.result.kqueue
    at so_far (c.in_ok-track.ensures.tracked t at so_far.tracked) c.in_ok-track.ensures.effect
    c.of-before_it.ensures.clock c.of-before_it.ensures.kqueue c.in_ok-hear.ensures rows) c.put_plain.ensures

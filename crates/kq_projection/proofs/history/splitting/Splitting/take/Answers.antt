use Rattle.std.proofs.Common.{◌≡◌, ◌∙◌, ◌+◌, ◌≤◌, ◌++◌, ◌∷◌, [], List, length, take, sym, ap, subst, arith}
use Rattle.std.proofs.lemmas.List.{take_all, take_more}
use Rattle.kq_model.specs.declared.event.Event.{Event}
use Rattle.kq_projection.specs.Splitting.{IsSplitSoFar}
use Rattle.kq_projection.specs.Traced.{Traced}
use Rattle.kq_projection.proofs.SplittingNext.{none-follow, one-follows, place-of-next}
use Rattle.kq_projection.proofs.history.splitting.Splitting.take.Goals as goal

pub loop-taken-init : goal.loop-taken-init
loop-taken-init c =
    λ (t : Traced) (at : length t.events ≡ c.args.before) (so_far : IsSplitSoFar t c.args.self.now).
    subst (λ (xs : List Event). IsSplitSoFar (record { version = t.version; events = xs }) c.args.self.now) (sym (none-follow t c.args.events.now)) so_far

pub take_one-requires : goal.take_one-requires
take_one-requires c =
    let given = c.requires.before in
    let t = given.0 in
    let es = c.args.events.now in
    let n = c.loop-taken.taken in
    let here : Traced = record { version = t.version; events = t.events ++ take n es } in
    (here, place-of-next t es c.args.before n given.1 c.loop-taken.auto.taken-end, c.loop-taken.invariant t given.1 given.2)

pub loop-taken-preserved : goal.loop-taken-preserved
loop-taken-preserved c =
    λ (t : Traced) (at : length t.events ≡ c.args.before) (so_far : IsSplitSoFar t c.args.self.now).
    let es = c.args.events.now in
    let n = c.loop-taken.taken in
    let event : Event = c.index-events-taken.result in
    let here : Traced = record { version = t.version; events = t.events ++ take n es } in
    let place : length here.events + 1 ≡ c.args.before + n + 1 = place-of-next t es c.args.before n at c.loop-taken.auto.taken-end in
    let more : take (n + 1) es ≡ take n es ++ event ∷ [] =
    take_more es n event c.loop-taken-test.true ∙ ap (λ (x : Event). take n es ++ x ∷ []) (sym c.index-events-taken.is) in
    subst (λ (xs : List Event). IsSplitSoFar (record { version = t.version; events = xs }) c.take_one.new.self) (one-follows t es n event more)
    (c.in_ok-take_one.ensures here place (c.loop-taken.invariant t at so_far))

pub returns : goal.returns
returns c =
    λ (t : Traced) (at : length t.events ≡ c.args.before) (so_far : IsSplitSoFar t c.args.self.now).
    let es = c.args.events.now in
    let n = c.loop-taken.taken in
    let past : length es ≤ n = omega arith in
    subst (λ (xs : List Event). IsSplitSoFar (record { version = t.version; events = t.events ++ xs }) c.loop-taken.self) (take_all n es past)
    (c.loop-taken.invariant t at so_far)

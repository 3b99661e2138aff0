use Rattle.std.proofs.Common.{◌≡◌, ◌+◌, ◌||◌, true, take, get_or, nat_eq, refl, sym, subst, add-one}
use Rattle.std.specs.List.{list_any}
use Rattle.kq_process.specs.Effects.{pairs_in}
use Rattle.kq_system.specs.Places.{has_place}
use Rattle.kq_system.specs.Showing.{IsTold}
use Rattle.kq_system.proofs.ShowLemmas.{any_end, any_next, shown-both, shown-none, shown-of}
use Rattle.kq_system.proofs.showing.show_several.Goals as goal

pub loop-place-init : goal.loop-place-init
loop-place-init g c =
    shown-none c.args.round (IsTold (pairs_in c.args.pairs.now) c.args.hints.now (g.V.Views.sees c.args.views.now))
    c.args.live.now.entries

pub loop-place-preserved : goal.loop-place-preserved
loop-place-preserved g c =
    let pairs = pairs_in c.args.pairs.now in
    let hints = c.args.hints.now in
    let views = g.V.Views.sees c.args.views.now in
    let ps = c.args.places.now in
    let i = c.loop-place.place-index in
    let es = c.args.live.now.entries in
    shown-of c.args.round (IsTold pairs hints views) (λ p. has_place p (take i ps) || nat_eq p (get_or ps i 0))
    (λ p. has_place p (take (i + 1) ps)) (c.loop-place.any || c.show_near-ended.result) c.either-any.result es
    c.show_near-ended.new.live.entries (sym c.either-any.ensures)
    (λ p asked. any_next (nat_eq p) ps i 0 c.loop-place-test.true
    (subst (λ n. list_any (nat_eq p) (take n ps) ≡ true) (add-one i) asked))
    (shown-both c.args.round (IsTold pairs hints views) (λ p. has_place p (take i ps)) (λ p. nat_eq p (get_or ps i 0))
    c.loop-place.any c.show_near-ended.result es c.loop-place.live.entries c.show_near-ended.new.live.entries
    c.loop-place.invariant c.show_near-ended.ensures)

pub returns : goal.returns
returns g c =
    let ps = c.args.places.now in
    let i = c.loop-place.place-index in
    shown-of c.args.round (IsTold (pairs_in c.args.pairs.now) c.args.hints.now (g.V.Views.sees c.args.views.now))
    (λ p. has_place p (take i ps)) (λ p. has_place p ps) c.loop-place.any c.loop-place.any c.args.live.now.entries
    c.loop-place.live.entries refl (λ p asked. any_end (nat_eq p) ps i c.loop-place-test.false asked)
    c.loop-place.invariant

use Rattle.std.proofs.Common.{◌≡◌, ◌+◌, ◌||◌, ℕ, List, true, take, nat_eq, refl, sym, subst, add-one}
use Rattle.kq_process.specs.Effects.{pairs_in}
use Rattle.kq_system.specs.Places.{has_place, places_at}
use Rattle.kq_system.specs.Showing.{IsTold, asks_owned}
use Rattle.kq_system.proofs.ShowLemmas.{any_end, any_next, shown-both, shown-none, shown-of}
use Rattle.kq_system.proofs.showing.show_owned.Goals as goal

pub loop-pair-init : goal.loop-pair-init
loop-pair-init g c =
    shown-none c.args.round (IsTold (pairs_in c.args.pairs.now) c.args.hints.now (g.V.Views.sees c.args.views.now))
    c.args.live.now.entries

pub loop-pair-preserved : goal.loop-pair-preserved
loop-pair-preserved g c =
    let pairs = pairs_in c.args.pairs.now in
    let hints = c.args.hints.now in
    let views = g.V.Views.sees c.args.views.now in
    let table = c.args.owned.now.table in
    let xs = c.args.pairs.now in
    let i = c.loop-pair.pair-index in
    let es = c.args.live.now.entries in
    let places = c.at-places.result.now in
    shown-of c.args.round (IsTold pairs hints views) (λ p. asks_owned table (take i xs) p || has_place p places)
    (asks_owned table (take (i + 1) xs)) (c.loop-pair.any || c.show_each-ended.result) c.either-any.result es
    c.show_each-ended.new.live.entries (sym c.either-any.ensures)
    (λ p asked. subst (λ (ps : List ℕ). (asks_owned table (take i xs) p || has_place p ps) ≡ true) (sym c.at-places.ensures)
    (any_next (λ (x : ℕ × ℕ). has_place p (places_at nat_eq table x.0)) xs i (0, 0) c.loop-pair-test.true
    (subst (λ n. asks_owned table (take n xs) p ≡ true) (add-one i) asked)))
    (shown-both c.args.round (IsTold pairs hints views) (asks_owned table (take i xs)) (λ p. has_place p places)
    c.loop-pair.any c.show_each-ended.result es c.loop-pair.live.entries c.show_each-ended.new.live.entries
    c.loop-pair.invariant c.show_each-ended.ensures)

pub returns : goal.returns
returns g c =
    let table = c.args.owned.now.table in
    let xs = c.args.pairs.now in
    let i = c.loop-pair.pair-index in
    shown-of c.args.round (IsTold (pairs_in c.args.pairs.now) c.args.hints.now (g.V.Views.sees c.args.views.now))
    (asks_owned table (take i xs)) (asks_owned table xs) c.loop-pair.any c.loop-pair.any c.args.live.now.entries
    c.loop-pair.live.entries refl
    (λ p asked. any_end (λ (x : ℕ × ℕ). has_place p (places_at nat_eq table x.0)) xs i c.loop-pair-test.false asked)
    c.loop-pair.invariant

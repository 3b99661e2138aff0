use Rattle.std.proofs.Common.{◌≡◌, ◌+◌, ◌||◌, ℕ, List, true, take, refl, sym, subst, add-one}
use Rattle.kq_model.specs.contracts.object.TargetPartialEq.TheImpl as target_equal
use Rattle.kq_model.specs.declared.object.Hint.TheVariants.{Readable}
use Rattle.kq_model.specs.declared.object.Target.TheVariants.{Socket}
use Rattle.kq_model.specs.Targets.{Posted}
use Rattle.kq_process.specs.Effects.{pairs_in}
use Rattle.kq_system.specs.Places.{has_place, places_at}
use Rattle.kq_system.specs.Showing.{IsTold, asks_watching}
use Rattle.kq_system.proofs.ShowLemmas.{any_end, any_next, shown-both, shown-none, shown-of}
use Rattle.kq_system.proofs.showing.show_watching.Goals as goal

pub loop-hint-init : goal.loop-hint-init
loop-hint-init g c =
    shown-none c.args.round (IsTold (pairs_in c.args.pairs.now) c.args.hints.now (g.V.Views.sees c.args.views.now))
    c.args.live.now.entries

pub loop-hint-preserved : goal.loop-hint-preserved
loop-hint-preserved g c =
    let pairs = pairs_in c.args.pairs.now in
    let hints = c.args.hints.now in
    let views = g.V.Views.sees c.args.views.now in
    let table = c.args.watching.now.table in
    let xs = c.args.hints.now in
    let i = c.loop-hint.hint-index in
    let es = c.args.live.now.entries in
    let places = c.at-places.result.now in
    shown-of c.args.round (IsTold pairs hints views) (λ p. asks_watching table (take i xs) p || has_place p places)
    (asks_watching table (take (i + 1) xs)) (c.loop-hint.any || c.show_each-ended.result) c.either-any.result es
    c.show_each-ended.new.live.entries (sym c.either-any.ensures)
    (λ p asked. subst (λ (ps : List ℕ). (asks_watching table (take i xs) p || has_place p ps) ≡ true) (sym c.at-places.ensures)
    (any_next (λ (x : Posted). has_place p (places_at target_equal.eq-value.it table x.0)) xs i (Socket 0, Readable) c.loop-hint-test.true
    (subst (λ n. asks_watching table (take n xs) p ≡ true) (add-one i) asked)))
    (shown-both c.args.round (IsTold pairs hints views) (asks_watching table (take i xs)) (λ p. has_place p places)
    c.loop-hint.any c.show_each-ended.result es c.loop-hint.live.entries c.show_each-ended.new.live.entries
    c.loop-hint.invariant c.show_each-ended.ensures)

pub returns : goal.returns
returns g c =
    let table = c.args.watching.now.table in
    let xs = c.args.hints.now in
    let i = c.loop-hint.hint-index in
    shown-of c.args.round (IsTold (pairs_in c.args.pairs.now) c.args.hints.now (g.V.Views.sees c.args.views.now))
    (asks_watching table (take i xs)) (asks_watching table xs) c.loop-hint.any c.loop-hint.any c.args.live.now.entries
    c.loop-hint.live.entries refl
    (λ p asked. any_end (λ (x : Posted). has_place p (places_at target_equal.eq-value.it table x.0)) xs i c.loop-hint-test.false asked)
    c.loop-hint.invariant

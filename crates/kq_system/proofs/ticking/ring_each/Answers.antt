use Rattle.std.proofs.Common.{◌≡◌, ◌+◌, ◌||◌, true, false, take, get_or, nat_eq, refl, subst, add-one}
use Rattle.std.specs.List.{list_any}
use Rattle.kq_model.specs.Clock.{Span}
use Rattle.kq_system.specs.Places.{has_place}
use Rattle.kq_system.specs.Showing.{IsRung}
use Rattle.kq_system.proofs.ShowLemmas.{any_end, any_next, shown-both, shown-none, shown-of}
use Rattle.kq_system.proofs.ticking.ring_each.Goals as goal

pub loop-place-init : goal.loop-place-init
loop-place-init c =
    let span : Span = record { from = c.args.from; to = c.args.to } in
    shown-none c.args.round (IsRung span) c.args.live.now.entries

pub loop-place-preserved : goal.loop-place-preserved
loop-place-preserved c =
    let span : Span = record { from = c.args.from; to = c.args.to } in
    let ps = c.args.places.now in
    let i = c.loop-place.place-index in
    let es = c.args.live.now.entries in
    shown-of c.args.round (IsRung span) (λ p. has_place p (take i ps) || nat_eq p (get_or ps i 0))
    (λ p. has_place p (take (i + 1) ps)) (false || false) false es c.ring_one.new.live.entries refl
    (λ p asked. any_next (nat_eq p) ps i 0 c.loop-place-test.true
    (subst (λ n. list_any (nat_eq p) (take n ps) ≡ true) (add-one i) asked))
    (shown-both c.args.round (IsRung span) (λ p. has_place p (take i ps)) (λ p. nat_eq p (get_or ps i 0)) false false es
    c.loop-place.live.entries c.ring_one.new.live.entries c.loop-place.invariant c.ring_one.ensures)

pub returns : goal.returns
returns c =
    let span : Span = record { from = c.args.from; to = c.args.to } in
    let ps = c.args.places.now in
    let i = c.loop-place.place-index in
    shown-of c.args.round (IsRung span) (λ p. has_place p (take i ps)) (λ p. has_place p ps) false false
    c.args.live.now.entries c.loop-place.live.entries refl
    (λ p asked. any_end (nat_eq p) ps i c.loop-place-test.false asked) c.loop-place.invariant

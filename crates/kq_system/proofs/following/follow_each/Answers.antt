use Rattle.std.proofs.Common.{◌≡◌, ◌+◌, ◌||◌, true, false, take, get_or, nat_eq, refl, subst, add-one}
use Rattle.std.specs.List.{list_any}
use Rattle.kq_system.specs.Forking.{IsFollowing}
use Rattle.kq_system.specs.Places.{has_place}
use Rattle.kq_system.proofs.FollowLemmas.{room_left}
use Rattle.kq_system.proofs.ShowLemmas.{any_end, any_next, shown-both, shown-none, shown-of}
use Rattle.kq_system.proofs.following.follow_each.Goals as goal

pub loop-place-init : goal.loop-place-init
loop-place-init g c = shown-none c.args.round (IsFollowing c.args.hints.now (g.V.Views.sees c.args.views.now))
    c.args.live.now.entries

pub follow_one-requires : goal.follow_one-requires
follow_one-requires g c =
    room_left c.args.hints.now (g.V.Views.sees c.args.views.now) c.args.round c.args.places.now c.args.live.now.entries
    c.loop-place.live.entries c.requires c.loop-place.invariant.passed c.loop-place.place-index 0
    c.loop-place-test.true

pub loop-place-preserved : goal.loop-place-preserved
loop-place-preserved g c =
    let follows = IsFollowing c.args.hints.now (g.V.Views.sees c.args.views.now) in
    let ps = c.args.places.now in
    let i = c.loop-place.place-index in
    let es = c.args.live.now.entries in
    shown-of c.args.round follows (λ p. has_place p (take i ps) || nat_eq p (get_or ps i 0))
    (λ p. has_place p (take (i + 1) ps)) (false || false) false es c.follow_one.new.live.entries refl
    (λ p asked. any_next (nat_eq p) ps i 0 c.loop-place-test.true
    (subst (λ n. list_any (nat_eq p) (take n ps) ≡ true) (add-one i) asked))
    (shown-both c.args.round follows (λ p. has_place p (take i ps)) (λ p. nat_eq p (get_or ps i 0)) false false es
    c.loop-place.live.entries c.follow_one.new.live.entries c.loop-place.invariant c.follow_one.ensures)

pub returns : goal.returns
returns g c =
    let ps = c.args.places.now in
    let i = c.loop-place.place-index in
    shown-of c.args.round (IsFollowing c.args.hints.now (g.V.Views.sees c.args.views.now))
    (λ p. has_place p (take i ps)) (λ p. has_place p ps) false false
    c.args.live.now.entries c.loop-place.live.entries refl
    (λ p asked. any_end (nat_eq p) ps i c.loop-place-test.false asked) c.loop-place.invariant

use Rattle.std.proofs.Common.{◌≡◌, ◌||◌, true, false, Some, nat_eq, sym, ap, subst, arith}
use Rattle.std.proofs.lemmas.Bool.Decides.{nat_tests}
use Rattle.std.specs.Map.{lookup}
use Rattle.kq_system.specs.Forking.{IsFollowing}
use Rattle.kq_system.specs.Showing.{AreShown}
use Rattle.kq_system.proofs.ShowLemmas.{Entries, shown-absent, shown-standing}
use Rattle.kq_system.proofs.following.follow_one.Goals as goal

pub follow-requires : goal.follow-requires
follow-requires g c =
    let place = c.args.place in
    let here : (nat_eq place place || false) ≡ true = grind (arith, nat_tests) in
    c.requires place c.in-Some.one.now here (sym c.in-Some.ensures.value)

pub returns-in-Some : goal.returns-in-Some
returns-in-Some g c =
    let es = c.args.live.now.entries in
    let follows = IsFollowing c.args.hints.now (g.V.Views.sees c.args.views.now) in
    let w = c.follow.new.self in
    let writes = c.get_mut.follows.holds w in
    let found : lookup (nat_eq c.args.place) es ≡ Some c.in-Some.one.now = sym c.in-Some.ensures.value in
    subst (λ (ns : Entries). AreShown c.args.round follows (λ p. nat_eq p c.args.place) false es ns) (sym writes.0)
    (shown-standing c.args.round follows c.args.place es c.in-Some.one.now w found c.follow.ensures.passed
    c.follow.ensures.seen c.follow.ensures.ended)

pub returns-in_default : goal.returns-in_default
returns-in_default g c =
    let es = c.args.live.now.entries in
    let follows = IsFollowing c.args.hints.now (g.V.Views.sees c.args.views.now) in
    subst (λ (ns : Entries). AreShown c.args.round follows (λ p. nat_eq p c.args.place) false es ns)
    (sym (ap (λ m. m.entries) c.get_mut.follows.holds-at-none))
    (shown-absent c.args.round follows c.args.place es (sym c.in_default.ensures.value))

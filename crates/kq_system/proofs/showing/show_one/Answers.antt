use Rattle.std.proofs.Common.{◌≡◌, false, Some, nat_eq, sym, ap, subst}
use Rattle.std.specs.Map.{lookup}
use Rattle.kq_process.specs.Effects.{pairs_in}
use Rattle.kq_system.specs.Showing.{AreShown, IsTold}
use Rattle.kq_system.proofs.ShowLemmas.{Entries, shown-absent, shown-of, shown-one}
use Rattle.kq_system.proofs.showing.show_one.Goals as goal

pub returns-in-Some : goal.returns-in-Some
returns-in-Some g c =
    let es = c.args.live.now.entries in
    let pairs = pairs_in c.args.pairs.now in
    let views = g.V.Views.sees c.args.views.now in
    let w = c.show.new.self in
    let writes = c.get_mut.follows.holds w in
    let found : lookup (nat_eq c.args.place) es ≡ Some c.in-Some.one.now = sym c.in-Some.ensures.value in
    let one = shown-one c.args.round (IsTold pairs c.args.hints.now views) c.args.place es c.in-Some.one.now w found
    c.show.ensures.passed c.show.ensures.seen in
    subst (λ (ns : Entries). AreShown c.args.round (IsTold pairs c.args.hints.now views) (λ p. nat_eq p c.args.place)
    c.show.result es ns) (sym writes.0)
    (shown-of c.args.round (IsTold pairs c.args.hints.now views) (λ p. nat_eq p c.args.place) (λ p. nat_eq p c.args.place)
    w.ended c.show.result es _ (sym c.show.ensures.ended) (λ p asked. asked) one)

pub returns-in-None : goal.returns-in-None
returns-in-None g c =
    let es = c.args.live.now.entries in
    let pairs = pairs_in c.args.pairs.now in
    let views = g.V.Views.sees c.args.views.now in
    subst (λ (ns : Entries). AreShown c.args.round (IsTold pairs c.args.hints.now views) (λ p. nat_eq p c.args.place)
    false es ns) (sym (ap (λ m. m.entries) c.get_mut.follows.holds-at-none))
    (shown-absent c.args.round (IsTold pairs c.args.hints.now views) c.args.place es (sym c.in-None.ensures.value))

use Rattle.std.proofs.Common.{◌≡◌, ◌∙◌, Some, None, nat_eq, slice_get, sym, ap, subst}
use Rattle.std.specs.Map.{lookup, values_of}
use Rattle.indexmap.specs.IndexMap.{set_value_at}
use Rattle.kq_process.specs.Effects.{pairs_in}
use Rattle.kq_system.specs.Showing.{AreShown, IsTold}
use Rattle.kq_system.proofs.NearLemmas.{set_there, value_there}
use Rattle.kq_system.proofs.ShowLemmas.{Entries, shown-absent, shown-of, shown-one}
use Rattle.kq_system.proofs.showing.show_near.Goals as goal

pub returns-in-Some : goal.returns-in-Some
returns-in-Some g c =
    let es = c.args.live.now.entries in
    let k = c.args.place in
    let told = IsTold (pairs_in c.args.pairs.now) c.args.hints.now (g.V.Views.sees c.args.views.now) in
    let w = c.show.new.self in
    let at = c.index_near-index.ensures in
    let found : lookup (nat_eq k) es ≡ Some c.in-Some.one.now =
    sym (ap (slice_get (values_of es)) at ∙ value_there (nat_eq k) es) ∙ sym c.in-Some.ensures.value in
    subst (λ (ns : Entries). AreShown c.args.round told (λ p. nat_eq p k) c.show.result es ns)
    (sym (ap (λ i. set_value_at es i w) at ∙ set_there (nat_eq k) es w))
    (shown-of c.args.round told (λ p. nat_eq p k) (λ p. nat_eq p k) w.ended c.show.result es _
    (sym c.show.ensures.ended) (λ p asked. asked)
    (shown-one c.args.round told k es c.in-Some.one.now w found c.show.ensures.passed c.show.ensures.seen))

pub returns-in-None : goal.returns-in-None
returns-in-None g c =
    let es = c.args.live.now.entries in
    let k = c.args.place in
    let none : lookup (nat_eq k) es ≡ None =
    sym (ap (slice_get (values_of es)) c.index_near-index.ensures ∙ value_there (nat_eq k) es)
    ∙ sym c.in-None.ensures.value in
    shown-absent c.args.round (IsTold (pairs_in c.args.pairs.now) c.args.hints.now (g.V.Views.sees c.args.views.now))
    k es none

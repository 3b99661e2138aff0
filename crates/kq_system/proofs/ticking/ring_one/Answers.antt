use Rattle.std.proofs.Common.{◌≡◌, false, Some, nat_eq, sym, ap, subst}
use Rattle.std.specs.Map.{lookup}
use Rattle.kq_model.specs.Clock.{Span}
use Rattle.kq_system.specs.Showing.{AreShown, IsRung}
use Rattle.kq_system.proofs.ShowLemmas.{Entries, shown-absent, shown-standing}
use Rattle.kq_system.proofs.ticking.ring_one.Goals as goal

pub returns-in-Some : goal.returns-in-Some
returns-in-Some c =
    let es = c.args.live.now.entries in
    let span : Span = record { from = c.args.from; to = c.args.to } in
    let w = c.ring.new.self in
    let writes = c.get_mut.follows.holds w in
    let found : lookup (nat_eq c.args.place) es ≡ Some c.in-Some.one.now = sym c.in-Some.ensures.value in
    subst (λ (ns : Entries). AreShown c.args.round (IsRung span) (λ p. nat_eq p c.args.place) false es ns) (sym writes.0)
    (shown-standing c.args.round (IsRung span) c.args.place es c.in-Some.one.now w found c.ring.ensures.passed
    c.ring.ensures.seen c.ring.ensures.ended)

pub returns-in_default : goal.returns-in_default
returns-in_default c =
    let es = c.args.live.now.entries in
    let span : Span = record { from = c.args.from; to = c.args.to } in
    subst (λ (ns : Entries). AreShown c.args.round (IsRung span) (λ p. nat_eq p c.args.place) false es ns)
    (sym (ap (λ m. m.entries) c.get_mut.follows.holds-at-none))
    (shown-absent c.args.round (IsRung span) c.args.place es (sym c.in_default.ensures.value))

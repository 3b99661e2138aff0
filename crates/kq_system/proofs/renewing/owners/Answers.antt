use Rattle.std.proofs.Common.{◌≡◌, ◌∙◌, ◌≤◌, true, length, nat_eq, sym, ap, subst, arith}
use Rattle.kq_system.specs.Places.{has_place, places_at}
use Rattle.kq_system.specs.Showing.{Each}
use Rattle.kq_system.specs.SystemState.{NumberedKqueue}
use Rattle.kq_system.proofs.RenewLemmas.{Each-end, Each-next, Each-none}
use Rattle.kq_system.proofs.ShowLemmas.{Each-weaker}
use Rattle.kq_system.proofs.renewing.owners.Goals as goal

pub loop-at-preserved : goal.loop-at-preserved
loop-at-preserved c =
    let before = c.loop-at.owned.table in
    let after = c.add.new.self.table in
    Each-next (λ place v. has_place place (places_at nat_eq after v.kq.owner) ≡ true) c.args.live.now.entries c.loop-at.at
    (c.in-Some.place.now, c.in-Some.one.now) (sym c.in-Some.ensures.entry)
    (Each-weaker (λ place v. has_place place (places_at nat_eq before v.kq.owner) ≡ true)
    (λ place v. has_place place (places_at nat_eq after v.kq.owner) ≡ true)
    (λ place v has. c.add.ensures.grows.grows v.kq.owner place has) _ c.loop-at.invariant)
    (subst (λ owner. has_place c.in-Some.place.now (places_at nat_eq after owner) ≡ true)
    (c.owner.ensures ∙ ap (λ (v : NumberedKqueue). v.kq.owner) c.one.view_is) c.in_ok-add.ensures.added)

pub returns-in_default : goal.returns-in_default
returns-in_default c =
    Each-none (λ place v. has_place place (places_at nat_eq c.loop-at.owned.table v.kq.owner) ≡ true)
    c.args.live.now.entries c.loop-at.at (sym c.in_default.ensures.entry) c.loop-at.invariant

pub returns : goal.returns
returns c =
    let past : length c.args.live.now.entries ≤ c.loop-at.at = omega (arith, c.loop-at-test.false, c.len-at-end.ensures.len) in
    subst (λ t. Each (λ place v. has_place place (places_at nat_eq t v.kq.owner) ≡ true) c.args.live.now.entries)
    (sym c.settle.ensures)
    (Each-end (λ place v. has_place place (places_at nat_eq c.loop-at.owned.table v.kq.owner) ≡ true)
    c.args.live.now.entries c.loop-at.at past c.loop-at.invariant)

use Rattle.std.proofs.Common.{◌≡◌, ◌∙◌, ℕ, filter, Option, sym, ap, subst, rules}
use Rattle.std.proofs.lemmas.Fn.{filter_same}
use Rattle.std.specs.Option.{is_some}
use Rattle.kq_model.specs.declared.object.Named.{Named}
use Rattle.kq_process.specs.Shelf.{AreRising}
use Rattle.kq_process.specs.Slots.{filled}
use Rattle.kq_process.proofs.Filled.{filled-full}
use Rattle.kq_process.proofs.Places.{filter-rises}
use Rattle.kq_process.proofs.descriptors.Descriptors.count_empty.Goals as goal

pub returns-then-len-self : goal.returns-then-len-self
returns-then-len-self c =
    let kept : c.retain.new.self.items
    ≡ filter (λ (slot : ℕ × Option Named). is_some slot.1) c.self.inside.slots.items =
    filter_same _ (λ (slot : ℕ × Option Named). is_some slot.1) _ (λ x b f k. search rules) _ _ c.retain.ensures.filtered in
    rw (← c.self.view_is) (ap filled kept ∙ filled-full c.self.inside.slots.items)

pub invariant_of-self : goal.invariant_of-self
invariant_of-self c =
    let kept : c.retain.new.self.items
    ≡ filter (λ (slot : ℕ × Option Named). is_some slot.1) c.self.inside.slots.items =
    filter_same _ (λ (slot : ℕ × Option Named). is_some slot.1) _ (λ x b f k. search rules) _ _ c.retain.ensures.filtered in
    subst AreRising (sym kept) (filter-rises _ c.self.inside.slots.items c.self.invariant)

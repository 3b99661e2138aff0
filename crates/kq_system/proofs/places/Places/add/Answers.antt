use Rattle.std.proofs.Common.{◌≡◌, ◌∙◌, true, sym, subst}
use Rattle.kq_system.specs.Places.{has_place}
use Rattle.kq_system.proofs.PlaceLemmas.{has-found, kept-either}
use Rattle.kq_system.proofs.places.Places.add.Goals as goal

pub returns-in-Ok-clause-added : goal.returns-in-Ok-clause-added
returns-in-Ok-clause-added c =
    subst (λ ps. has_place c.args.place ps ≡ true) (c.deref.ensures ∙ c.self.view_is)
    (has-found c.args.place c.deref.result.now c.in-Ok.field-0 c.in-Ok.ensures.bound c.in-Ok.ensures.ok)

pub returns-in_ok-insert-in-Err-clause-kept : goal.returns-in_ok-insert-in-Err-clause-kept
returns-in_ok-insert-in-Err-clause-kept c = λ p there.
    subst (λ ps. has_place p ps ≡ true) (sym c.in_ok-insert-in-Err.ensures.ok)
    (kept-either p c.args.place c.self.inside.list.items c.in-Err.index true
    (subst (λ ps. has_place p ps ≡ true) (sym c.self.view_is) there))

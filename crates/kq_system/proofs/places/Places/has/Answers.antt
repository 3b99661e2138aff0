use Rattle.std.proofs.Common.{◌≡◌, ◌∙◌, true, subst}
use Rattle.kq_system.specs.Places.{has_place}
use Rattle.kq_system.proofs.PlaceLemmas.{has-found}
use Rattle.kq_system.proofs.places.Places.has.Goals as goal

pub returns-in-Ok : goal.returns-in-Ok
returns-in-Ok c = λ _.
    subst (λ ps. has_place c.args.place ps ≡ true) (c.deref.ensures ∙ c.self.view_is)
    (has-found c.args.place c.deref.result.now c.in-Ok.field-0 c.in-Ok.ensures.bound c.in-Ok.ensures.ok)

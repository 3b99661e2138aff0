use Rattle.std.proofs.Common.{◌≡◌, ◌&&◌, false, refl, sym, ap, ap₂, ◌∙◌}
use Rattle.kq_model.specs.ChangedKnote.{activated}
use Rattle.kq_model.specs.Knote.{has_nothing}
use Rattle.kq_model.specs.Look.{look}
use Rattle.kq_model.specs.Registration.{with_removed}
use Rattle.kq_model.specs.Tallied.{Knote}
use Rattle.kq_kevent.proofs.TellLaws.{leave-gone, leave-stays}
use Rattle.kq_kevent.proofs.kq.Kq.leave.Goals as goal
use Rattle.kq_kevent.proofs.kq.Kq.leave.Goals.{else-done-via-then-done+else-has_nothing, else-done-via-else-done}

pub returns-then-has_nothing-clause-kq : goal.returns-then-has_nothing-clause-kq
returns-then-has_nothing-clause-kq g c =
    let empty = sym c.has_nothing.ensures ∙ c.if-has_nothing.true in
    c.unmake_at.ensures.kq ∙ ap (λ (k : Knote). with_removed k.key c.args.self.now.kq) c.told.view_is
    ∙ leave-gone (g.V.Views.sees c.args.views.now) c.args.done c.args.told c.args.self.now.kq c.if-done.true empty

pub returns-else-done-clause-kq : goal.returns-else-done-clause-kq
returns-else-done-clause-kq g c =
    let empty = has_nothing c.args.told in
    let stays : c.args.done && empty ≡ false =
    elim c.else-done.branch [
      | else-done-via-then-done+else-has_nothing w ↦
          ap₂ (λ a b. a && b) w.if-done.true
          (sym w.has_nothing.ensures ∙ w.if-has_nothing.false)
      | else-done-via-else-done w ↦ ap (λ a. a && empty) w.if-done.false
    ] in
    let views = g.V.Views.sees c.args.views.now in
    c.stay.ensures.kq
    ∙ leave-stays views c.args.done c.args.told (activated (look views c.args.told) c.args.told) c.args.self.now.kq stays refl

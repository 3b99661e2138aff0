use Rattle.std.proofs.Common.{ap, sym, ◌∙◌, subst}
use Rattle.kq_model.specs.Call.{number_of}
use Rattle.kq_model.specs.Tallying.{tallying}
use Rattle.kq_model.specs.NamedTargets.{IsNamed}
use Rattle.kq_model.specs.Registration.{register}
use Rattle.kq_model.specs.RegistrationLaws.{IsRegistered}
use Rattle.kq_model.specs.Tallied.{Kqueue}
use Rattle.kq_model.specs.WatchedNumbers.{WatchTheirNumbers}
use Rattle.kq_model.proofs.NamedTargets.{makes-named}
use Rattle.kq_model.proofs.Subjects.{register-subjects}
use Rattle.kq_model.proofs.RegistrationLaws.{register-registered}
use Rattle.kq_model.proofs.Tallied.{register-tallied, register-error-tallied}
use Rattle.kq_kevent.specs.Owned.{caller}
use Rattle.kq_kevent.proofs.kq.Kq.register.Goals as goal

pub returns-clause-laws : goal.returns-clause-laws
returns-clause-laws g c =
    let by = caller (g.V.Views.sees c.args.views.now) c.args.self.now in
    let kq = c.args.self.now.kq in
    let change = c.args.change.now in
    let error = c.number_of.ensures ∙ ap number_of c.apply.ensures.error in
    subst (λ (after : Kqueue). IsRegistered change kq after c.number_of.result) (sym c.apply.ensures.kq)
    (subst (λ n. IsRegistered change kq (register by change kq).kq n) (sym error)
    (register-registered tallying by change kq))

pub returns-clause-model : goal.returns-clause-model
returns-clause-model g c = λ m same.
    let by = caller (g.V.Views.sees c.args.views.now) c.args.self.now in
    let kq = c.args.self.now.kq in
    let change = c.args.change.now in (
      c.apply.ensures.kq ∙ register-tallied kq m same by change,
      c.number_of.ensures ∙ ap number_of (c.apply.ensures.error ∙ register-error-tallied kq m same by change),
    )

pub returns-clause-named : goal.returns-clause-named
returns-clause-named g c = λ all.
    let views = g.V.Views.sees c.args.views.now in
    let by = caller views c.args.self.now in
    let kq = c.args.self.now.kq in
    let change = c.args.change.now in
    subst (λ (after : Kqueue). WatchTheirNumbers views c.args.self.now.owner after) (sym c.apply.ensures.kq)
    (register-subjects tallying (IsNamed views c.args.self.now.owner) by change kq all (makes-named tallying by change kq))

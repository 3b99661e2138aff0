use Rattle.std.proofs.Common.{sym, ap, ◌∙◌}
use Rattle.kq_model.specs.Registration.{with_removed}
use Rattle.kq_model.specs.Tallied.{Registered}
use Rattle.kq_kevent.specs.Owned.{caller}
use Rattle.kq_kevent.proofs.RegisterLaws.{register-refused, register-removed, register-made, register-modified}
use Rattle.kq_kevent.proofs.kq.Kq.apply.Goals as goal

pub returns-in-Refuse-clause-kq : goal.returns-in-Refuse-clause-kq
returns-in-Refuse-clause-kq g c =
    let by = caller (g.V.Views.sees c.args.views.now) c.args.self.now in
    ap (λ (r : Registered). r.kq)
    (sym (register-refused by c.args.change.now c.args.self.now.kq c.in-Refuse.error c.in-Refuse.ensures.decision))

pub returns-in-Refuse-clause-error : goal.returns-in-Refuse-clause-error
returns-in-Refuse-clause-error g c =
    let by = caller (g.V.Views.sees c.args.views.now) c.args.self.now in
    ap (λ (r : Registered). r.error)
    (sym (register-refused by c.args.change.now c.args.self.now.kq c.in-Refuse.error c.in-Refuse.ensures.decision))

pub returns-in-Remove-clause-kq : goal.returns-in-Remove-clause-kq
returns-in-Remove-clause-kq g c =
    let by = caller (g.V.Views.sees c.args.views.now) c.args.self.now in
    c.unmake_at.ensures.kq ∙ ap (λ key. with_removed key c.args.self.now.kq) c.key.ensures
    ∙ ap (λ (r : Registered). r.kq)
    (sym (register-removed by c.args.change.now c.args.self.now.kq c.in-Remove.ensures.decision))

pub returns-in-Remove-clause-error : goal.returns-in-Remove-clause-error
returns-in-Remove-clause-error g c =
    let by = caller (g.V.Views.sees c.args.views.now) c.args.self.now in
    ap (λ (r : Registered). r.error)
    (sym (register-removed by c.args.change.now c.args.self.now.kq c.in-Remove.ensures.decision))

pub returns-in-Make-clause-kq : goal.returns-in-Make-clause-kq
returns-in-Make-clause-kq g c =
    let by = caller (g.V.Views.sees c.args.views.now) c.args.self.now in
    c.make.ensures.kq ∙ ap (λ (r : Registered). r.kq)
    (sym (register-made by c.args.change.now c.args.self.now.kq c.in-Make.ensures.decision))

pub returns-in-Make-clause-error : goal.returns-in-Make-clause-error
returns-in-Make-clause-error g c =
    let by = caller (g.V.Views.sees c.args.views.now) c.args.self.now in
    ap (λ (r : Registered). r.error)
    (sym (register-made by c.args.change.now c.args.self.now.kq c.in-Make.ensures.decision))

pub returns-in-Modify-clause-kq : goal.returns-in-Modify-clause-kq
returns-in-Modify-clause-kq g c =
    let by = caller (g.V.Views.sees c.args.views.now) c.args.self.now in
    c.modify.ensures.kq ∙ ap (λ (r : Registered). r.kq)
    (sym (register-modified by c.args.change.now c.args.self.now.kq c.in-Modify.found.row c.in-Modify.ensures.decision))

pub returns-in-Modify-clause-error : goal.returns-in-Modify-clause-error
returns-in-Modify-clause-error g c =
    let by = caller (g.V.Views.sees c.args.views.now) c.args.self.now in
    ap (λ (r : Registered). r.error)
    (sym (register-modified by c.args.change.now c.args.self.now.kq c.in-Modify.found.row c.in-Modify.ensures.decision))

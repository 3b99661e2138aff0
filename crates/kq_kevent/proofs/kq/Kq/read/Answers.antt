use Rattle.std.proofs.Common.{◌∙◌, subst}
use Rattle.std.proofs.lemmas.Result.{IfOk-weaker}
use Rattle.kq_model.specs.Call.{Called}
use Rattle.kq_model.specs.CallLaws.{IsAnswer}
use Rattle.kq_model.specs.Hearing.{listed}
use Rattle.kq_model.specs.Recast.{IsTallied}
use Rattle.kq_model.specs.Tallied.{Kqueue}
use Rattle.kq_kevent.specs.Owned.{caller}
use Rattle.kq_kevent.proofs.BeginLaws.{call-nil, changed-nil}
use Rattle.kq_kevent.proofs.kq.Kq.read.Goals as goal

pub returns-clause-read : goal.returns-clause-read
returns-clause-read g c =
    let by = caller (g.V.Views.sees c.args.views.now) c.args.self.now in
    IfOk-weaker c.call.result _ _ (λ r called. called ∙ call-nil by c.args.room c.args.self.now.kq)
    c.call.ensures.called

pub returns-clause-model : goal.returns-clause-model
returns-clause-model g c =
    let by = caller (g.V.Views.sees c.args.views.now) c.args.self.now in
    IfOk-weaker c.call.result _ _ (λ r is m same.
    subst (λ (x : Called listed). IsTallied c.call.new.self.kq r x) (call-nil by c.args.room m) (is m same))
    c.call.ensures.model

pub returns-clause-answer : goal.returns-clause-answer
returns-clause-answer g c =
    let views = g.V.Views.sees c.args.views.now in
    let by = caller views c.args.self.now in
    IfOk-weaker c.call.result _ _ (λ r is.
    subst (λ (kq : Kqueue). IsAnswer views c.args.room kq c.call.new.self.kq r)
    (changed-nil by c.args.room c.args.self.now.kq) is) c.call.ensures.answer

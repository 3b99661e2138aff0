use Rattle.std.proofs.Common.{ap, ◌∙◌, subst}
use Rattle.kq_model.specs.Hints.{notified}
use Rattle.kq_model.specs.Kqueue.{IsSound}
use Rattle.kq_kevent.specs.Owned.{OwnedKqueue, kqueue_in}
use Rattle.kq_knote.specs.Reserved.{Reserved}
use Rattle.kq_kevent.proofs.kq.Kq.notice_hinted.Goals as goal

pub returns-in_default-clause-kq : goal.returns-in_default-clause-kq
returns-in_default-clause-kq g c =
    let views = g.V.Views.sees c.args.views.now in
    let hints = c.args.hints.now in
    c.notice_all.ensures.kq
    ∙ ap (λ (ks : Reserved). notified views hints (kqueue_in ks)) c.take_hinted.ensures.knotes
    ∙ ap (λ (v : OwnedKqueue). notified views hints v.kq) c.self.view_is

pub returns-in_default-clause-sound : goal.returns-in_default-clause-sound
returns-in_default-clause-sound g c = subst (λ (v : OwnedKqueue). IsSound v.kq) c.self.view_is c.self.invariant

pub returns-clause-kq : goal.returns-clause-kq
returns-clause-kq g c =
    let views = g.V.Views.sees c.args.views.now in
    let hints = c.args.hints.now in
    ap kqueue_in c.give_back.ensures
    ∙ ap (λ (v : OwnedKqueue). v.kq) c.self-2.view_is
    ∙ c.notice_each.ensures.kq
    ∙ ap (λ (ks : Reserved). notified views hints (kqueue_in ks)) c.take_hinted.ensures.knotes
    ∙ ap (λ (v : OwnedKqueue). notified views hints v.kq) c.self.view_is

pub returns-clause-sound : goal.returns-clause-sound
returns-clause-sound g c = subst (λ (v : OwnedKqueue). IsSound v.kq) c.self.view_is c.self.invariant

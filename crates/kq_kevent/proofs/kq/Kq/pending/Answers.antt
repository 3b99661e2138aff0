use Rattle.std.proofs.Common.{sym, ◌∙◌, subst}
use Rattle.kq_model.specs.Kqueue.{IsSound}
use Rattle.kq_kevent.specs.Owned.{OwnedKqueue, caller}
use Rattle.kq_kevent.proofs.PendingLaws.{retrieval-count, poll-reply}
use Rattle.kq_kevent.proofs.kq.Kq.pending.Goals as goal

pub returns-clause-pending : goal.returns-clause-pending
returns-clause-pending g c =
    let sound : IsSound c.args.self.now.kq = subst (λ (v : OwnedKqueue). IsSound v.kq) c.self.view_is c.self.invariant in
    c.count_due.ensures ∙ sym (retrieval-count (g.V.Views.sees c.args.views.now) c.args.room c.args.self.now.kq sound)

pub returns-clause-called : goal.returns-clause-called
returns-clause-called g c =
    poll-reply (caller (g.V.Views.sees c.args.views.now) c.args.self.now) c.args.room c.args.self.now.kq

-- One change more.
use Rattle.std.proofs.Common.{pos, subst, sym, take, ◌++◌, ◌∷◌, []}
use Rattle.std.proofs.Math.ListN.{get_or}
use Rattle.std.proofs.lemmas.List.{take_more}
use Rattle.kq_freebsd.specs.declared.c_kevent.CKevent.{CKevent}
use Rattle.kq_freebsd.specs.Kevents.{AreChanges}
use Rattle.kq_freebsd.proofs.Lists.{are_more}
use Rattle.kq_freebsd.proofs.c_kevent.changes_of.Goals as goal

pub loop-kevent-preserved : goal.loop-kevent-preserved
loop-kevent-preserved c =
    let ks = c.args.kevents.now in
    let i = c.loop-kevent.kevent-index in
    let none : CKevent = record { ident = 0; filter = pos 0; flags = 0; fflags = 0; datum = pos 0; udata = 0 } in
    let k = get_or ks i none in
    let is = c.made_of-change.ensures in
    let are = are_more (take i ks) c.loop-kevent.changes.items k c.made_of-change.result c.loop-kevent.invariant is in
    subst (λ xs. AreChanges xs c.push.new.self.items) (sym (take_more ks i none c.loop-kevent-test.true))
    (subst (λ cs. AreChanges (take i ks ++ k ∷ []) cs) (sym c.in_ok-push.ensures.items) are)

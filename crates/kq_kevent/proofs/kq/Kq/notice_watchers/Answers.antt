use Rattle.std.proofs.Common.{◌-◌, ◌+◌, Option, length, refl, sym, ap, ◌∙◌, subst, arith}
use Rattle.std.specs.Option.{option_map}
use Rattle.kq_model.specs.declared.key.Key.{Key}
use Rattle.kq_model.specs.Hints.{notified}
use Rattle.kq_model.specs.Kqueue.{HaveOwnKeys, IsSound}
use Rattle.kq_knote.specs.Index.{behind, first_hinted, IsHinted}
use Rattle.kq_table.specs.declared.placed.Watcher.{Watcher}
use Rattle.kq_kevent.specs.Owned.{OwnedKqueue}
use Rattle.kq_kevent.proofs.NotifyLaws.{IsAt, walk-start, walk-stops, walk-ends, walk-hinted, walk-goes}
use Rattle.kq_kevent.proofs.kq.Kq.notice_watchers.Goals as goal

abbrev key_of : Watcher Key → Key
key_of watcher = watcher.key

pub loop-step-init : goal.loop-step-init
loop-step-init g c =
    let views = g.V.Views.sees c.args.views.now in
    let hints = c.args.hints.now in
    let kq = c.args.self.now.kq in
    record {
      at = walk-start views hints kq (option_map key_of c.first_watcher-next.result) (length kq.knotes - 0)
          (c.first_watcher-next.ensures hints c.requires ∙ ap (λ (v : OwnedKqueue). first_hinted hints v.kq.knotes) c.self.view_is) (omega arith);
      owner = refl;
      version = refl;
      reserved = omega arith;
      limit = refl;
    }

pub loop-step-preserved : goal.loop-step-preserved
loop-step-preserved g c =
    let views = g.V.Views.sees c.args.views.now in
    let hints = c.args.hints.now in
    let wanted = notified views hints c.args.self.now.kq in
    let left = length c.args.self.now.kq.knotes - c.loop-step._step in
    let fewer = length c.args.self.now.kq.knotes - (c.loop-step._step + 1) in
    let at = subst (λ (o : Option (Watcher Key)). IsAt views hints wanted (option_map key_of o) left c.loop-step.self.kq) c.in-Some.is c.loop-step.invariant.at in
    let own = subst (λ (v : OwnedKqueue). HaveOwnKeys v.kq.knotes) c.self-in-loop-step.view_is c.self-in-loop-step.invariant.own_keys in
    let hinted = subst (λ (v : OwnedKqueue). IsHinted hints c.in-Some.watcher.key v.kq.knotes) (sym c.self-in-loop-step.view_is)
    (walk-hinted views hints wanted c.in-Some.watcher.key left c.loop-step.self.kq own at) in
    record {
      at = walk-goes views hints wanted c.in-Some.watcher.key left c.loop-step.self.kq own at (option_map key_of c.next_watcher-next.result) fewer c.notice.new.self.kq (omega arith)
          (c.next_watcher-next.ensures c.args.target hints c.requires hinted
          ∙ ap (λ (v : OwnedKqueue). first_hinted hints (behind c.in-Some.watcher.key v.kq.knotes)) c.self-in-loop-step.view_is)
          c.notice.ensures.kq;
      owner = c.notice.ensures.owner ∙ c.loop-step.invariant.owner;
      version = c.notice.ensures.version ∙ c.loop-step.invariant.version;
      reserved = omega arith;
      limit = c.notice.ensures.limit ∙ c.loop-step.invariant.limit;
    }

pub returns-in_default-clause-kq : goal.returns-in_default-clause-kq
returns-in_default-clause-kq g c =
    let views = g.V.Views.sees c.args.views.now in
    let hints = c.args.hints.now in
    walk-stops views hints (notified views hints c.args.self.now.kq)
    (length c.args.self.now.kq.knotes - c.loop-step._step) c.loop-step.self.kq
    (subst (λ (o : Option (Watcher Key)). IsAt views hints (notified views hints c.args.self.now.kq) (option_map key_of o) (length c.args.self.now.kq.knotes - c.loop-step._step) c.loop-step.self.kq)
    c.in_default.is c.loop-step.invariant.at)

pub returns-in_default-clause-sound : goal.returns-in_default-clause-sound
returns-in_default-clause-sound g c = subst (λ (v : OwnedKqueue). IsSound v.kq) c.self.view_is c.self.invariant

pub returns-clause-kq : goal.returns-clause-kq
returns-clause-kq g c =
    let views = g.V.Views.sees c.args.views.now in
    let hints = c.args.hints.now in
    walk-ends views hints (notified views hints c.args.self.now.kq) (option_map key_of c.loop-step.next)
    (length c.args.self.now.kq.knotes - c.loop-step._step) c.loop-step.self.kq
    (omega (arith, ap (λ (v : OwnedKqueue). length v.kq.knotes) c.self.view_is)) c.loop-step.invariant.at

pub returns-clause-sound : goal.returns-clause-sound
returns-clause-sound g c = subst (λ (v : OwnedKqueue). IsSound v.kq) c.self.view_is c.self.invariant

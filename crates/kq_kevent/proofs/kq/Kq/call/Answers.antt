use Rattle.std.proofs.Common.{subst, Vec, Global, Some, None, sym, ap, ◌∙◌}
use Rattle.std.proofs.lemmas.Bool.{true≢false}
use Rattle.std.proofs.lemmas.List.{nil_from_length}
use Rattle.kq_model.specs.declared.kevent.Kevent.{Kevent}
use Rattle.kq_model.specs.declared.reply.Reply.TheVariants.{Events}
use Rattle.kq_model.specs.Call.{ended}
use Rattle.kq_model.specs.CallLaws.{IsAnswer, kqueue_after_changes}
use Rattle.kq_model.specs.Kqueue.{IsSound}
use Rattle.kq_model.specs.Tallying.{tallying}
use Rattle.kq_model.specs.Tallied.{Called}
use Rattle.kq_model.specs.WatchedNumbers.{WatchTheirNumbers}
use Rattle.kq_model.proofs.Tallied.{call-tallied}
use Rattle.kq_model.proofs.WatchedNumbers.{call-watched}
use Rattle.kq_kevent.specs.Owned.{OwnedKqueue, caller}
use Rattle.kq_kevent.proofs.AnswerLaws.{call-answer, changes_then_poll}
use Rattle.kq_kevent.proofs.CallLaws.{same_caller, called, call-fails, call-full, call-entries, call-retrieves, process-from}
use Rattle.kq_kevent.proofs.kq.Kq.call.Goals as goal
use Rattle.kq_kevent.proofs.kq.Kq.call.Goals.{then-reads_pending, else-reads_pending}

pub returns-in-Ended-Some-clause-called : goal.returns-in-Ended-Some-clause-called
returns-in-Ended-Some-clause-called g c =
    let views = g.V.Views.sees c.args.views.now in
    let by = caller views c.args.self.now in
    let items = c.process.new.placed.items in
    call-fails by c.args.room c.args.changes.now c.args.self.now.kq c.process.new.self.kq items
    c.in-Ended-Some.field-0 c.in-Ended-Some.error
    (process-from (caller views c.reserve_for.new.self) by c.args.room c.args.changes.now c.reserve_for.new.self.kq
    c.args.self.now.kq
    (record { kq = c.process.new.self.kq; placed = items; answer = Some (ended c.in-Ended-Some.field-0 items) })
    (same_caller views c.reserve_for.new.self c.args.self.now c.in_ok-reserve_for.ensures.owner
    c.in_ok-reserve_for.ensures.version) c.in_ok-reserve_for.ensures.kq c.in-Ended-Some.ensures.processed)
    c.in-Ended-Some.field-0-is

pub returns-in-Ended-None-clause-called : goal.returns-in-Ended-None-clause-called
returns-in-Ended-None-clause-called g c =
    let views = g.V.Views.sees c.args.views.now in
    let by = caller views c.args.self.now in
    let items = c.process.new.placed.items in
    ap (called c.process.new.self.kq) c.answer.ensures
    ∙ call-full by c.args.room c.args.changes.now c.args.self.now.kq c.process.new.self.kq items
    c.in-Ended-None.field-0
    (process-from (caller views c.reserve_for.new.self) by c.args.room c.args.changes.now c.reserve_for.new.self.kq
    c.args.self.now.kq
    (record { kq = c.process.new.self.kq; placed = items; answer = Some (ended c.in-Ended-None.field-0 items) })
    (same_caller views c.reserve_for.new.self c.args.self.now c.in_ok-reserve_for.ensures.owner
    c.in_ok-reserve_for.ensures.version) c.in_ok-reserve_for.ensures.kq c.in-Ended-None.ensures.processed)
    c.in-Ended-None.field-0-is

pub returns-after-reads_pending-clause-called : goal.returns-after-reads_pending-clause-called
returns-after-reads_pending-clause-called g c =
    let views = g.V.Views.sees c.args.views.now in
    let by = caller views c.args.self.now in
    let items = c.process.new.placed.items in
    let is = process-from (caller views c.reserve_for.new.self) by c.args.room c.args.changes.now c.reserve_for.new.self.kq
    c.args.self.now.kq
    (record { kq = c.process.new.self.kq; placed = items; answer = None })
    (same_caller views c.reserve_for.new.self c.args.self.now c.in_ok-reserve_for.ensures.owner
    c.in_ok-reserve_for.ensures.version) c.in_ok-reserve_for.ensures.kq c.in-Through.ensures.processed in
    elim c.if-reads_pending.branch [
      | then-reads_pending w ↦
          let none = sym c.deref.ensures.value ∙ c.reads_pending.ensures.0 w.if-reads_pending.true in
          ap (λ (v : OwnedKqueue). called v.kq c.answer-in-Through.result) w.self-is
          ∙ ap (called w.retrieve.new.self.kq)
          (c.answer-in-Through.ensures ∙ ap (λ (v : Vec Kevent Global). Events v.items) w.events-is)
          ∙ call-retrieves by c.args.room c.args.changes.now c.args.self.now.kq c.process.new.self.kq
          w.retrieve.new.self.kq items w.retrieve.new.events.items is
          none w.retrieve.ensures.retrieved
      | else-reads_pending w ↦
          ap (λ (v : OwnedKqueue). called v.kq c.answer-in-Through.result) w.self-is
          ∙ ap (called c.process.new.self.kq)
          (c.answer-in-Through.ensures ∙ ap (λ (v : Vec Kevent Global). Events v.items) w.events-is)
          ∙ call-entries by c.args.room c.args.changes.now c.args.self.now.kq c.process.new.self.kq items is
          (λ zero. true≢false (sym (c.reads_pending.ensures.1 (c.deref.ensures.value ∙ nil_from_length items zero))
          ∙ w.if-reads_pending.false))
    ]

pub returns-in-Ended-Some-clause-answer : goal.returns-in-Ended-Some-clause-answer
returns-in-Ended-Some-clause-answer g c =
    let views = g.V.Views.sees c.args.views.now in
    let by = caller views c.args.self.now in
    let sound = subst IsSound (ap (λ (v : OwnedKqueue). v.kq) c.self.view_is ∙ c.in_ok-reserve_for.ensures.kq)
    c.self.invariant in
    subst (λ (x : Called). IsAnswer views c.args.room
    (kqueue_after_changes by c.args.room c.args.changes.now c.args.self.now.kq) x.kq x.reply)
    (sym (returns-in-Ended-Some-clause-called g c))
    (call-answer by c.args.room c.args.changes.now c.args.self.now.kq sound)

pub returns-in-Ended-None-clause-answer : goal.returns-in-Ended-None-clause-answer
returns-in-Ended-None-clause-answer g c =
    let views = g.V.Views.sees c.args.views.now in
    let by = caller views c.args.self.now in
    let sound = subst IsSound (ap (λ (v : OwnedKqueue). v.kq) c.self.view_is ∙ c.in_ok-reserve_for.ensures.kq)
    c.self.invariant in
    subst (λ (x : Called). IsAnswer views c.args.room
    (kqueue_after_changes by c.args.room c.args.changes.now c.args.self.now.kq) x.kq x.reply)
    (sym (returns-in-Ended-None-clause-called g c))
    (call-answer by c.args.room c.args.changes.now c.args.self.now.kq sound)

pub returns-after-reads_pending-clause-answer : goal.returns-after-reads_pending-clause-answer
returns-after-reads_pending-clause-answer g c =
    let views = g.V.Views.sees c.args.views.now in
    let by = caller views c.args.self.now in
    let sound = subst IsSound (ap (λ (v : OwnedKqueue). v.kq) c.self.view_is ∙ c.in_ok-reserve_for.ensures.kq)
    c.self.invariant in
    subst (λ (x : Called). IsAnswer views c.args.room
    (kqueue_after_changes by c.args.room c.args.changes.now c.args.self.now.kq) x.kq x.reply)
    (sym (returns-after-reads_pending-clause-called g c))
    (call-answer by c.args.room c.args.changes.now c.args.self.now.kq sound)

pub returns-in-Ended-Some-clause-poll : goal.returns-in-Ended-Some-clause-poll
returns-in-Ended-Some-clause-poll g c =
    let views = g.V.Views.sees c.args.views.now in
    let by = caller views c.args.self.now in
    changes_then_poll by c.args.room c.args.changes.now c.args.self.now.kq

pub returns-in-Ended-None-clause-poll : goal.returns-in-Ended-None-clause-poll
returns-in-Ended-None-clause-poll g c =
    let views = g.V.Views.sees c.args.views.now in
    let by = caller views c.args.self.now in
    changes_then_poll by c.args.room c.args.changes.now c.args.self.now.kq

pub returns-after-reads_pending-clause-poll : goal.returns-after-reads_pending-clause-poll
returns-after-reads_pending-clause-poll g c =
    let views = g.V.Views.sees c.args.views.now in
    let by = caller views c.args.self.now in
    changes_then_poll by c.args.room c.args.changes.now c.args.self.now.kq

pub returns-in_err-reserve_for-clause-poll : goal.returns-in_err-reserve_for-clause-poll
returns-in_err-reserve_for-clause-poll g c =
    let views = g.V.Views.sees c.args.views.now in
    let by = caller views c.args.self.now in
    changes_then_poll by c.args.room c.args.changes.now c.args.self.now.kq

pub returns-in_err-events-clause-poll : goal.returns-in_err-events-clause-poll
returns-in_err-events-clause-poll g c =
    let views = g.V.Views.sees c.args.views.now in
    let by = caller views c.args.self.now in
    changes_then_poll by c.args.room c.args.changes.now c.args.self.now.kq

pub returns-in-Ended-Some-clause-model : goal.returns-in-Ended-Some-clause-model
returns-in-Ended-Some-clause-model g c = λ m same.
    let by = caller (g.V.Views.sees c.args.views.now) c.args.self.now in
    call-tallied c.args.self.now.kq m same by c.args.room c.args.changes.now _ _
    (returns-in-Ended-Some-clause-called g c)

pub returns-in-Ended-None-clause-model : goal.returns-in-Ended-None-clause-model
returns-in-Ended-None-clause-model g c = λ m same.
    let by = caller (g.V.Views.sees c.args.views.now) c.args.self.now in
    call-tallied c.args.self.now.kq m same by c.args.room c.args.changes.now _ _
    (returns-in-Ended-None-clause-called g c)

pub returns-after-reads_pending-clause-model : goal.returns-after-reads_pending-clause-model
returns-after-reads_pending-clause-model g c = λ m same.
    let by = caller (g.V.Views.sees c.args.views.now) c.args.self.now in
    call-tallied c.args.self.now.kq m same by c.args.room c.args.changes.now _ _
    (returns-after-reads_pending-clause-called g c)

pub returns-in-Ended-Some-clause-named : goal.returns-in-Ended-Some-clause-named
returns-in-Ended-Some-clause-named g c = λ all.
    let by = caller (g.V.Views.sees c.args.views.now) c.args.self.now in
    subst (λ (x : Called). WatchTheirNumbers by.views by.owner x.kq) (sym (returns-in-Ended-Some-clause-called g c))
    (call-watched tallying by c.args.room c.args.changes.now c.args.self.now.kq all)

pub returns-in-Ended-None-clause-named : goal.returns-in-Ended-None-clause-named
returns-in-Ended-None-clause-named g c = λ all.
    let by = caller (g.V.Views.sees c.args.views.now) c.args.self.now in
    subst (λ (x : Called). WatchTheirNumbers by.views by.owner x.kq) (sym (returns-in-Ended-None-clause-called g c))
    (call-watched tallying by c.args.room c.args.changes.now c.args.self.now.kq all)

pub returns-after-reads_pending-clause-named : goal.returns-after-reads_pending-clause-named
returns-after-reads_pending-clause-named g c = λ all.
    let by = caller (g.V.Views.sees c.args.views.now) c.args.self.now in
    subst (λ (x : Called). WatchTheirNumbers by.views by.owner x.kq) (sym (returns-after-reads_pending-clause-called g c))
    (call-watched tallying by c.args.room c.args.changes.now c.args.self.now.kq all)

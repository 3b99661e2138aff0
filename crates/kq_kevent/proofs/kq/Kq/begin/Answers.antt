use Rattle.std.proofs.Common.{Option, sym, ap, ◌∙◌, subst}
use Rattle.kq_model.specs.declared.reply.Reply.{Reply}
use Rattle.kq_model.specs.Tallying.{tallying}
use Rattle.kq_model.specs.Tallied.{Kqueue}
use Rattle.kq_model.specs.WatchedNumbers.{WatchTheirNumbers}
use Rattle.kq_model.proofs.WatchedNumbers.{call-watched}
use Rattle.kq_kevent.specs.Beginning.{Begun}
use Rattle.kq_kevent.specs.Ending.{answer_of}
use Rattle.kq_kevent.specs.Owned.{caller}
use Rattle.kq_kevent.proofs.BeginLaws.{begun-is, begun-tallied, call-in-steps, changes-by-call}
use Rattle.kq_kevent.proofs.CallLaws.{process-from, same_caller}
use Rattle.kq_kevent.proofs.kq.Kq.begin.Goals as goal

abbrev begins : Kqueue → Option Reply → Begun tallying
begins kq answer = record { kq = kq; answer = answer }

pub returns-in_err-reserve_for-clause-steps : goal.returns-in_err-reserve_for-clause-steps
returns-in_err-reserve_for-clause-steps g c =
    call-in-steps (caller (g.V.Views.sees c.args.views.now) c.args.self.now) c.args.room c.args.changes.now
    c.args.self.now.kq

pub returns-in_err-placed-clause-steps : goal.returns-in_err-placed-clause-steps
returns-in_err-placed-clause-steps g c =
    call-in-steps (caller (g.V.Views.sees c.args.views.now) c.args.self.now) c.args.room c.args.changes.now
    c.args.self.now.kq

pub returns-clause-steps : goal.returns-clause-steps
returns-clause-steps g c =
    call-in-steps (caller (g.V.Views.sees c.args.views.now) c.args.self.now) c.args.room c.args.changes.now
    c.args.self.now.kq

pub returns-clause-begun : goal.returns-clause-begun
returns-clause-begun g c =
    let views = g.V.Views.sees c.args.views.now in
    let by = caller views c.args.self.now in
    let placed = c.process-ending.new.placed.items in
    ap (λ (answer : Option Reply). begins c.process-ending.new.self.kq answer) c.answer_at.ensures
    ∙ begun-is by c.args.room c.args.changes.now c.args.self.now.kq
    (record { kq = c.process-ending.new.self.kq; placed = placed; answer = answer_of c.process-ending.result placed })
    (process-from (caller views c.reserve_for.new.self) by c.args.room c.args.changes.now c.reserve_for.new.self.kq
    c.args.self.now.kq
    (record { kq = c.process-ending.new.self.kq; placed = placed; answer = answer_of c.process-ending.result placed })
    (same_caller views c.reserve_for.new.self c.args.self.now c.in_ok-reserve_for.ensures.owner
    c.in_ok-reserve_for.ensures.version) c.in_ok-reserve_for.ensures.kq c.process-ending.ensures.processed)

pub returns-clause-model : goal.returns-clause-model
returns-clause-model g c = λ m same.
    begun-tallied (caller (g.V.Views.sees c.args.views.now) c.args.self.now) c.args.room c.args.changes.now
    c.args.self.now.kq c.process-ending.new.self.kq m c.answer_at.result same (returns-clause-begun g c)

pub returns-clause-named : goal.returns-clause-named
returns-clause-named g c = λ all.
    let by = caller (g.V.Views.sees c.args.views.now) c.args.self.now in
    let some = changes-by-call by c.args.room c.args.changes.now c.args.self.now.kq in
    subst (λ (kq : Kqueue). WatchTheirNumbers by.views by.owner kq)
    (some.1 ∙ sym (ap (λ (b : Begun tallying). b.kq) (returns-clause-begun g c)))
    (call-watched tallying by some.0 c.args.changes.now c.args.self.now.kq all)

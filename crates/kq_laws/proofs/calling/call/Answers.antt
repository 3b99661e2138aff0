use Rattle.std.proofs.Common.{◌≡◌, ℕ, ap}
use Rattle.std.proofs.lemmas.Result.{IfOk-weaker}
use Rattle.kq_model.specs.declared.key.Key.{Key}
use Rattle.kq_model.specs.declared.reply.Reply.{Reply}
use Rattle.kq_model.specs.Call.{call}
use Rattle.kq_model.specs.CallLaws.{IsAnswer, kqueue_after_changes}
use Rattle.kq_model.specs.Tallied.{Called}
use Rattle.kq_kevent.specs.Owned.{caller}
use Rattle.kq_laws.specs.Clears.{ReturnsNewsAlone}
use Rattle.kq_laws.specs.Timers.{TellsExpirations}
use Rattle.kq_laws.specs.Wakes.{LosesNoWakeUp}
use Rattle.kq_laws.proofs.Cleared.{returns_news_alone}
use Rattle.kq_laws.proofs.Returned.{loses_no_wake_up}
use Rattle.kq_laws.proofs.ToldOverLife.{tells_expirations}
use Rattle.kq_laws.proofs.calling.call.Goals as goal

pub returns-clause-timers : goal.returns-clause-timers
returns-clause-timers g c =
    let views = g.V.Views.sees c.args.views.now in
    let old = c.args.kqueue.now in
    let by = caller views old in
    let changes = c.args.changes.now in
    IfOk-weaker c.call.result
    (IsAnswer views c.args.room (kqueue_after_changes by c.args.room changes old.kq) c.call.new.self.kq)
    (λ (reply : Reply). (ident : ℕ) → TellsExpirations ident by c.args.room changes old.kq reply)
    (λ reply answer ident. tells_expirations ident by c.args.room changes old.kq c.call.new.self.kq reply answer)
    c.call.ensures.answer

pub returns-clause-wakes : goal.returns-clause-wakes
returns-clause-wakes g c =
    let views = g.V.Views.sees c.args.views.now in
    let old = c.args.kqueue.now in
    let by = caller views old in
    let changes = c.args.changes.now in
    IfOk-weaker c.call.result
    (λ (reply : Reply). record { kq = c.call.new.self.kq; reply = reply } ≡ call by c.args.room changes old.kq)
    (LosesNoWakeUp by c.args.room changes old.kq)
    (λ reply e. loses_no_wake_up by c.args.room changes old.kq reply c.knotes.ensures.sound
    (ap (λ (r : Called). r.reply) e)) c.call.ensures.called

pub returns-clause-clears : goal.returns-clause-clears
returns-clause-clears g c =
    let views = g.V.Views.sees c.args.views.now in
    let old = c.args.kqueue.now in
    let by = caller views old in
    let changes = c.args.changes.now in
    IfOk-weaker c.call.result
    (λ (reply : Reply). record { kq = c.call.new.self.kq; reply = reply } ≡ call by c.args.room changes old.kq)
    (λ (reply : Reply). (key : Key) → ReturnsNewsAlone key by c.args.room changes old.kq reply)
    (λ reply e key. returns_news_alone key by c.args.room changes old.kq reply c.knotes.ensures.sound
    (ap (λ (r : Called). r.reply) e)) c.call.ensures.called

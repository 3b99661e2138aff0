use Rattle.std.proofs.Common.{subst}
use Rattle.std.proofs.lemmas.Result.{IfOk-weaker}
use Rattle.kq_lock.specs.declared.entry.Receipt.{Receipt}
use Rattle.kq_lock.specs.Seats.{Called}
use Rattle.kq_model.specs.declared.reply.Reply.{Reply}
use Rattle.kq_live.specs.Lives.{IsCalled, LiveName, OpensEmpty}
use Rattle.kq_live.proofs.Replaying.{next_step}
use Rattle.kq_live.proofs.Telling.{is_called}
use Rattle.kq_live.proofs.live.Live.try_call.Goals as goal

pub returns-clause-ok : goal.returns-clause-ok
returns-clause-ok c =
    let live = c.args.self.now in
    let v = c.args.seat.now in
    let w = c.try_call.new.seat in
    let event = c.args.event in
    let opens = subst (λ (n : LiveName). OpensEmpty n.lock n.version) c.self.view_is c.self.invariant in
    IfOk-weaker c.try_call.result
    (λ (r : Receipt Reply). Called next_step v w event r.at r.answer r.seen_len)
    (λ (r : Receipt Reply). IsCalled live.version v w event r.at r.answer r.seen_len)
    (λ r h. is_called live.lock live.version v w event r.at r.answer r.seen_len opens c.requires h)
    c.try_call.ensures.ok

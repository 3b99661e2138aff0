-- A key further, and each end.
use Rattle.std.proofs.Common.{◌≡◌, ◌+◌, ◌∙◌, Some, suc, length, slice_get, sym, ap, arith}
use Rattle.kq_kevent.proofs.ArrangeLaws.{key_after-next}
use Rattle.kq_judge.specs.Allowed.{event_due}
use Rattle.kq_check.proofs.InOrder.{all_met, few, none_there, one_key_further, room_full}
use Rattle.kq_check.proofs.answering.events_in_order.Goals as goal

pub loop-turn-preserved : goal.loop-turn-preserved
loop-turn-preserved g c =
    let queue = c.args.kq.now.kq.queue in
    let turn = c.loop-turn._turn in
    let here : slice_get queue turn ≡ Some c.in-Some.key = sym c.loop-turn.invariant.next ∙ c.in-Some.is in
    record {
      next = c.waiting_after-next.ensures ∙ key_after-next queue turn c.in-Some.key c.waiting_len-turn-end.ensures.once here
          ∙ ap (slice_get queue) (let more : suc turn ≡ turn + 1 = omega arith in more);
      events = one_key_further (event_due (g.V.Views.sees c.args.views.now) c.args.kq.now.kq.knotes) queue c.args.room turn
          c.in-Some.key c.event_due.result c.loop-turn.events.items c.put_due.new.events.items here c.event_due.ensures
          c.loop-turn.invariant.events c.in_ok-put_due.ensures;
    }

pub put_due-requires : goal.put_due-requires
put_due-requires g c = rw c.loop-turn.invariant.events (few c.args.room _)

pub returns-in_default : goal.returns-in_default
returns-in_default g c =
    none_there (event_due (g.V.Views.sees c.args.views.now) c.args.kq.now.kq.knotes) c.args.kq.now.kq.queue c.args.room
    c.loop-turn._turn c.loop-turn.events.items (sym c.loop-turn.invariant.next ∙ c.in_default.is) c.loop-turn.invariant.events

pub returns-then-len-room : goal.returns-then-len-room
returns-then-len-room g c =
    let full : length c.loop-turn.events.items ≡ c.args.room = omega (arith, c.if-len-room.true) in
    room_full (event_due (g.V.Views.sees c.args.views.now) c.args.kq.now.kq.knotes) c.args.kq.now.kq.queue c.args.room
    c.loop-turn._turn c.loop-turn.events.items full c.loop-turn.invariant.events

pub returns : goal.returns
returns g c =
    all_met (event_due (g.V.Views.sees c.args.views.now) c.args.kq.now.kq.knotes) c.args.kq.now.kq.queue c.args.room
    c.loop-turn._turn c.loop-turn.events.items (omega (arith, c.waiting_len-turn-end.ensures.len)) c.loop-turn.invariant.events

use Rattle.std.proofs.Common.{◌≡◌, ◌+◌, ◌<◌, Some, suc, slice_get, sym, ap, ◌∙◌, arith, rules}
use Rattle.kq_kevent.proofs.ArrangeLaws.{key_after-next}
use Rattle.kq_judge.proofs.TableLaws.{find_row-none}
use Rattle.kq_judge.specs.Allowed.{event_due}
use Rattle.kq_judge.specs.Verdicts.{looked_at}
use Rattle.kq_judge.proofs.LookedLaws.{new-there, take-there, looked-goes, looked-ends, looked-stops, looked-full, room-found}
use Rattle.kq_judge.proofs.verdict.look_along.Goals as goal

pub attach-requires-clause-absent : goal.attach-requires-clause-absent
attach-requires-clause-absent g c =
    find_row-none _ (λ a b. search rules) c.in-Some.key c.loop-turn.keys.rows
    (new-there c.args.kq.now.kq.queue c.loop-turn.keys.rows c.loop-turn._turn c.in-Some.key c.requires.sound.once
    (sym c.loop-turn.invariant.next ∙ c.in-Some.is) c.loop-turn.invariant.rows)

pub loop-turn-preserved : goal.loop-turn-preserved
loop-turn-preserved g c =
    let views = g.V.Views.sees c.args.views.now in
    let kq = c.args.kq.now.kq in
    let due = event_due views kq.knotes in
    let turn = c.loop-turn._turn in
    let here : slice_get kq.queue turn ≡ Some c.in-Some.key = sym c.loop-turn.invariant.next ∙ c.in-Some.is in
    let some : 0 < c.loop-turn.left = omega arith in
    record {
      next = c.waiting_after-next.ensures ∙ key_after-next kq.queue turn c.in-Some.key c.requires.sound.once here
          ∙ ap (slice_get kq.queue) (let more : suc turn ≡ turn + 1 = omega arith in more);
      rows = take-there kq.queue c.loop-turn.keys.rows c.attach.new.self.rows turn c.in-Some.key here
          c.loop-turn.invariant.rows c.attach.ensures.rows;
      so_far = looked-goes due (looked_at due c.args.room kq.queue) kq.queue c.loop-turn.keys.rows
          c.attach.new.self.rows turn c.loop-turn.left c.room_behind-left.result c.in-Some.key here some
          c.loop-turn.invariant.so_far c.attach.ensures.rows
          (room-found views kq turn c.loop-turn.left c.room_behind-left.result c.in-Some.key c.is_pending.result
          c.requires.sound here some c.is_pending.ensures c.room_behind-left.ensures);
      place = omega arith;
    }

pub returns-in_default : goal.returns-in_default
returns-in_default g c =
    let kq = c.args.kq.now.kq in
    let due = event_due (g.V.Views.sees c.args.views.now) kq.knotes in
    looked-stops due (looked_at due c.args.room kq.queue) kq.queue c.loop-turn.keys.rows c.loop-turn._turn
    c.loop-turn.left (sym c.loop-turn.invariant.next ∙ c.in_default.is) c.loop-turn.invariant.so_far

pub returns-then-left-eq0 : goal.returns-then-left-eq0
returns-then-left-eq0 g c =
    let kq = c.args.kq.now.kq in
    let due = event_due (g.V.Views.sees c.args.views.now) kq.knotes in
    looked-full due (looked_at due c.args.room kq.queue) kq.queue c.loop-turn.keys.rows c.loop-turn._turn
    c.loop-turn.left c.if-left-eq0.true c.loop-turn.invariant.so_far

pub returns : goal.returns
returns g c =
    let kq = c.args.kq.now.kq in
    let due = event_due (g.V.Views.sees c.args.views.now) kq.knotes in
    looked-ends due (looked_at due c.args.room kq.queue) kq.queue c.loop-turn.keys.rows c.loop-turn._turn
    c.loop-turn.left (omega arith) c.loop-turn.invariant.so_far

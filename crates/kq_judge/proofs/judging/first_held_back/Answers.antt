use Rattle.std.proofs.Common.{◌≡◌, ◌+◌, Some, slice_get, suc, sym, ap, ◌∙◌, arith}
use Rattle.kq_kevent.proofs.ArrangeLaws.{key_after-next}
use Rattle.kq_judge.proofs.JudgeLaws.{returned-more, returned-whole, returned-past}
use Rattle.kq_judge.proofs.judging.first_held_back.Goals as goal

pub loop-turn-preserved : goal.loop-turn-preserved
loop-turn-preserved g c =
    let queue = c.args.kq.now.kq.queue in
    let here : slice_get queue c.loop-turn._turn ≡ Some c.in-Some.key = sym c.loop-turn.invariant.next ∙ c.in-Some.is in
    record {
      next = c.waiting_after-next.ensures ∙ key_after-next queue c.loop-turn._turn c.in-Some.key c.requires.once here
          ∙ ap (slice_get queue) (let more : suc c.loop-turn._turn ≡ c.loop-turn._turn + 1 = omega arith in more);
      past = returned-more (g.V.Views.sees c.args.views.now) c.args.kq.now.kq.knotes queue c.args.returned.now.rows
          c.loop-turn._turn c.in-Some.key here c.loop-turn.invariant.past c.if-is_held_back.ensures;
    }

pub returns-in_default : goal.returns-in_default
returns-in_default g c =
    returned-past (g.V.Views.sees c.args.views.now) c.args.kq.now.kq.knotes c.args.kq.now.kq.queue
    c.args.returned.now.rows c.loop-turn._turn (sym c.loop-turn.invariant.next ∙ c.in_default.is)
    c.loop-turn.invariant.past

pub returns : goal.returns
returns g c =
    returned-whole (g.V.Views.sees c.args.views.now) c.args.kq.now.kq.knotes c.args.kq.now.kq.queue
    c.args.returned.now.rows c.loop-turn._turn (omega arith) c.loop-turn.invariant.past

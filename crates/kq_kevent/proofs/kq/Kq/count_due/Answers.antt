use Rattle.std.proofs.Common.{◌≡◌, Some, add-one, length, slice_get, sym, ap, ◌∙◌, subst, arith}
use Rattle.kq_model.specs.Kqueue.{AreOnce}
use Rattle.kq_kevent.specs.Arranged.{key_after}
use Rattle.kq_kevent.specs.Foretold.{is_due}
use Rattle.kq_kevent.specs.Owned.{OwnedKqueue}
use Rattle.kq_kevent.proofs.ArrangeLaws.{key_after-next}
use Rattle.kq_kevent.proofs.PendingLaws.{count-full, count-goes, count-over, count-stops, one-or-none}
use Rattle.kq_kevent.proofs.kq.Kq.count_due.Goals as goal

pub loop-turn-preserved : goal.loop-turn-preserved
loop-turn-preserved g c =
    let due = is_due (g.V.Views.sees c.args.views.now) c.args.self.now.kq.knotes in
    let q = c.args.self.now.kq.queue in
    let i = c.loop-turn._turn in
    let key = c.in-Some.key in
    let at : slice_get q i ≡ Some key = sym c.loop-turn.invariant.next ∙ c.in-Some.is in
    let once : AreOnce q = subst (λ (v : OwnedKqueue). AreOnce v.kq.queue) c.self.view_is c.self.invariant.once in
    record {
      next = c.behind-next.ensures ∙ ap (λ (v : OwnedKqueue). key_after key v.kq.queue) c.self.view_is
          ∙ key_after-next q i key once at ∙ ap (slice_get q) (sym (add-one i));
      so_far = count-goes due q i c.loop-turn.count c.args.room c.loop-turn.invariant.so_far key c.is_due.result c.one_more-count.result at
          c.is_due.ensures c.one_more-count.ensures;
      in_room = let one = one-or-none c.is_due.result in omega (arith, one, c.one_more-count.ensures);
    }

pub returns-then-count-room : goal.returns-then-count-room
returns-then-count-room g c =
    let due = is_due (g.V.Views.sees c.args.views.now) c.args.self.now.kq.knotes in
    count-full due c.args.self.now.kq.queue c.loop-turn._turn c.loop-turn.count c.args.room c.loop-turn.invariant.so_far (omega arith)

pub returns-in_default : goal.returns-in_default
returns-in_default g c =
    let due = is_due (g.V.Views.sees c.args.views.now) c.args.self.now.kq.knotes in
    count-stops due c.args.self.now.kq.queue c.loop-turn._turn c.loop-turn.count c.args.room c.loop-turn.invariant.so_far
    (sym c.in_default.is ∙ c.loop-turn.invariant.next) c.loop-turn.invariant.in_room

pub returns : goal.returns
returns g c =
    let due = is_due (g.V.Views.sees c.args.views.now) c.args.self.now.kq.knotes in
    let turns = ap (λ (v : OwnedKqueue). length v.kq.queue) c.self.view_is in
    count-over due c.args.self.now.kq.queue c.loop-turn._turn c.loop-turn.count c.args.room c.loop-turn.invariant.so_far
    (omega arith) c.loop-turn.invariant.in_room

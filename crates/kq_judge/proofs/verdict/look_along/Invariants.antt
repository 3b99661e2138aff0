use Rattle.std.proofs.Common.{◌≡◌, ◌+◌, ◌≤◌, ◌++◌, take, drop, slice_get}
use Rattle.kq_judge.specs.Allowed.{event_due}
use Rattle.kq_judge.specs.Verdicts.{looked_at}
use Rattle.kq_judge.proofs.verdict.look_along.Given as goal

abbrev pub invariant-loop-turn : goal.invariant-loop-turn
invariant-loop-turn g l = record {
  next : l.next ≡ slice_get l.kq.kq.queue l._turn;
  rows : l.keys.rows ≡ take l._turn l.kq.kq.queue;
  so_far : l.keys.rows ++ looked_at (event_due (g.V.Views.sees l.views) l.kq.kq.knotes) l.left
      (drop l._turn l.kq.kq.queue)
      ≡ looked_at (event_due (g.V.Views.sees l.views) l.kq.kq.knotes) l.fn.room l.kq.kq.queue;
  place : l.most ≤ l.keys.room + l._turn;
}

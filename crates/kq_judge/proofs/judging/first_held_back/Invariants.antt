use Rattle.std.proofs.Common.{◌≡◌, take, slice_get}
use Rattle.kq_judge.specs.Judged.{AreReturned}
use Rattle.kq_judge.proofs.judging.first_held_back.Given as goal

abbrev pub invariant-loop-turn : goal.invariant-loop-turn
invariant-loop-turn g l = record {
  next : l.next ≡ slice_get l.kq.kq.queue l._turn;
  past : AreReturned (g.V.Views.sees l.views) l.kq.kq.knotes (take l._turn l.kq.kq.queue) l.returned.rows;
}

use Rattle.std.proofs.Common.{◌≡◌, ◌+◌, ◌≤◌, length, map, min, take}
use Rattle.kq_model.specs.CallLaws.{key_of_event}
use Rattle.kq_judge.specs.Judged.{AreRight}
use Rattle.kq_judge.proofs.judging.first_wrong.Given as goal

abbrev pub invariant-loop-at : goal.invariant-loop-at
invariant-loop-at g l = record {
  right : AreRight l.ignored (g.V.Views.sees l.views) l.kq.kq.knotes (take l.at l.own);
  rows : l.returned.rows ≡ map key_of_event (take l.at l.own);
  within : l.at ≤ l.room;
  left : min l.room (length l.own) ≤ l.returned.room + l.at;
}

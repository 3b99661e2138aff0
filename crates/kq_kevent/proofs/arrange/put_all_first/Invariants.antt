use Rattle.std.proofs.Common.{◌≡◌, drop}
use Rattle.kq_kevent.specs.Arranged.{arranged}
use Rattle.kq_kevent.proofs.arrange.put_all_first.Given as goal

abbrev pub invariant-loop-at : goal.invariant-loop-at
invariant-loop-at l = record {
  so_far : l.knotes.queue ≡ arranged (drop l.at l.keys) l.initial.knotes.queue;
  knotes : l.knotes.knotes ≡ l.initial.knotes.knotes;
  room : l.knotes.room ≡ l.initial.knotes.room;
}

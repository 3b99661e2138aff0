use Rattle.std.proofs.Common.{◌≡◌, ◌≤◌, take, slice_get, count_by}
use Rattle.kq_kevent.specs.Foretold.{is_due}
use Rattle.kq_kevent.proofs.kq.Kq.count_due.Given as goal

abbrev pub invariant-loop-turn : goal.invariant-loop-turn
invariant-loop-turn g l = record {
  next : l.next ≡ slice_get l.self.kq.queue l._turn;
  so_far : l.count ≡ count_by (is_due (g.V.Views.sees l.views) l.self.kq.knotes) (take l._turn l.self.kq.queue);
  in_room : l.count ≤ l.room;
}

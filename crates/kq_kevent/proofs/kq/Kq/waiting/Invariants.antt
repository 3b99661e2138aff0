use Rattle.std.proofs.Common.{◌≡◌, take, slice_get}
use Rattle.std.specs.Vec.{vec_capacity}
use Rattle.kq_kevent.proofs.kq.Kq.waiting.Given as goal

abbrev pub invariant-loop-turn : goal.invariant-loop-turn
invariant-loop-turn l = record {
  next : l.next ≡ slice_get l.self.kq.queue l._turn;
  so_far : l.keys.items ≡ take l._turn l.self.kq.queue;
  capacity : vec_capacity l.keys ≡ vec_capacity l.initial.keys;
}

use Rattle.std.proofs.Common.{◌≡◌, ◌-◌, length}
use Rattle.kq_kevent.specs.Owned.{limit}
use Rattle.kq_kevent.specs.Ringing.{rung_each, firsts_at}
use Rattle.kq_kevent.proofs.RingWalk.{IsRinging}
use Rattle.kq_kevent.proofs.kq.Kq.ring_at.Given as goal

abbrev pub invariant-loop-step : goal.invariant-loop-step
invariant-loop-step l = record {
  at : IsRinging l.from l.to l.moment (rung_each l.from l.to (firsts_at l.from l.moment l.initial.self.kq.knotes) l.initial.self.kq) l.next
      (length l.initial.self.kq.knotes - l._step) l.self.kq;
  owner : l.self.owner ≡ l.initial.self.owner;
  version : l.self.version ≡ l.initial.self.version;
  room : l.self.room ≡ l.initial.self.room;
  limit : limit l.self ≡ limit l.initial.self;
}

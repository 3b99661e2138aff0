use Rattle.std.proofs.Common.{◌≡◌, ◌+◌, ◌-◌, ◌<◌, ◌≤◌}
use Rattle.kq_kevent.specs.Owned.{limit}
use Rattle.kq_kevent.specs.Ringing.{rung_each}
use Rattle.kq_kevent.proofs.ClockLaws.{ringing_before}
use Rattle.kq_kevent.proofs.kq.Kq.ring_all.Given as goal

abbrev pub invariant-loop-moment : goal.invariant-loop-moment
invariant-loop-moment l = record {
  kq : l.self.kq ≡ rung_each l.from l.to (ringing_before l.from l.to l.moment l.initial.self.kq.knotes) l.initial.self.kq;
  later : l.from < l.moment;
  bounded : l.moment ≤ l.to + 1;
  owner : l.self.owner ≡ l.initial.self.owner;
  version : l.self.version ≡ l.initial.self.version;
  room : l.self.room ≡ l.initial.self.room;
  limit : limit l.self ≡ limit l.initial.self;
}

abbrev pub decreases-loop-moment : goal.decreases-loop-moment
decreases-loop-moment l = (l.to + 1) - l.moment

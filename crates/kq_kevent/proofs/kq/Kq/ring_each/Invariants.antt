use Rattle.std.proofs.Common.{◌≡◌, Some, drop}
use Rattle.kq_model.specs.Clock.{clocked}
use Rattle.kq_kevent.specs.Owned.{limit}
use Rattle.kq_kevent.proofs.RingDue.{IsRingingEach}
use Rattle.kq_kevent.proofs.kq.Kq.ring_each.Given as goal

abbrev pub invariant-loop-key : goal.invariant-loop-key
invariant-loop-key l = record {
  at : IsRingingEach l.from l.to (clocked (Some (record { from = l.from; to = l.to })) l.initial.self.kq) (drop l.key-index l.keys) l.self.kq;
  owner : l.self.owner ≡ l.initial.self.owner;
  version : l.self.version ≡ l.initial.self.version;
  room : l.self.room ≡ l.initial.self.room;
  limit : limit l.self ≡ limit l.initial.self;
}

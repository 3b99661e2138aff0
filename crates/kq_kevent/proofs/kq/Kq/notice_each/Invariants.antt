use Rattle.std.proofs.Common.{◌≡◌, ◌≤◌, drop}
use Rattle.kq_model.specs.Hints.{notified}
use Rattle.kq_kevent.specs.Owned.{limit}
use Rattle.kq_kevent.proofs.NotifyLaws.{IsAmong}
use Rattle.kq_kevent.proofs.kq.Kq.notice_each.Given as goal

abbrev pub invariant-loop-index : goal.invariant-loop-index
invariant-loop-index g l = record {
  among : IsAmong (g.V.Views.sees l.views) l.hints (notified (g.V.Views.sees l.views) l.hints l.initial.self.kq) (drop l.index l.keys) l.self.kq;
  owner : l.self.owner ≡ l.initial.self.owner;
  version : l.self.version ≡ l.initial.self.version;
  reserved : l.initial.self.room ≤ l.self.room;
  limit : limit l.self ≡ limit l.initial.self;
}

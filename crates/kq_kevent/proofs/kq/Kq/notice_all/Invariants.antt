use Rattle.std.proofs.Common.{◌≡◌, ◌-◌, ◌≤◌, length}
use Rattle.kq_model.specs.Hints.{notified}
use Rattle.kq_kevent.specs.Owned.{limit}
use Rattle.kq_kevent.proofs.NotifyLaws.{IsOver}
use Rattle.kq_kevent.proofs.kq.Kq.notice_all.Given as goal

abbrev pub invariant-loop-step : goal.invariant-loop-step
invariant-loop-step g l = record {
  over : IsOver (g.V.Views.sees l.views) l.hints (notified (g.V.Views.sees l.views) l.hints l.initial.self.kq) l.next
      (length l.initial.self.kq.knotes - l._step) l.self.kq;
  owner : l.self.owner ≡ l.initial.self.owner;
  version : l.self.version ≡ l.initial.self.version;
  reserved : l.initial.self.room ≤ l.self.room;
  limit : limit l.self ≡ limit l.initial.self;
}

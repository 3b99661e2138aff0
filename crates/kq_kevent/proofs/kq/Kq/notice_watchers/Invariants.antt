use Rattle.std.proofs.Common.{◌≡◌, ◌-◌, ◌≤◌, length}
use Rattle.std.specs.Option.{option_map}
use Rattle.kq_model.specs.Hints.{notified}
use Rattle.kq_model.specs.declared.key.Key.{Key}
use Rattle.kq_table.specs.declared.placed.Watcher.{Watcher}
use Rattle.kq_kevent.specs.Owned.{limit}
use Rattle.kq_kevent.proofs.NotifyLaws.{IsAt}
use Rattle.kq_kevent.proofs.kq.Kq.notice_watchers.Given as goal

abbrev pub invariant-loop-step : goal.invariant-loop-step
invariant-loop-step g l = record {
  at : IsAt (g.V.Views.sees l.views) l.hints (notified (g.V.Views.sees l.views) l.hints l.initial.self.kq) (option_map (λ (w : Watcher Key). w.key) l.next)
      (length l.initial.self.kq.knotes - l._step) l.self.kq;
  owner : l.self.owner ≡ l.initial.self.owner;
  version : l.self.version ≡ l.initial.self.version;
  reserved : l.initial.self.room ≤ l.self.room;
  limit : limit l.self ≡ limit l.initial.self;
}

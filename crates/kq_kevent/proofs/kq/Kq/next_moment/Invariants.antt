use Rattle.std.proofs.Common.{◌-◌, ◌+◌, ◌<◌, ◌≤◌, length}
use Rattle.kq_kevent.specs.Ringing.{IsReached}
use Rattle.kq_kevent.proofs.RingWalk.{IsLooking}
use Rattle.kq_kevent.proofs.kq.Kq.next_moment.Given as goal

abbrev pub invariant-loop-step : goal.invariant-loop-step
invariant-loop-step l = record {
  at : IsLooking l.from l.low l.fn.self.kq.knotes l.next (length l.fn.self.kq.knotes - l._step) l.least;
  later : l.low < l.least;
  bounded : l.least ≤ l.to + 1;
  reached : IsReached l.from l.to l.fn.self.kq.knotes l.least;
}

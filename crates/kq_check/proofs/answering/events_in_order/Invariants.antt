-- The events so far are the first of those that the keys so far give, and the next key stands behind these.
use Rattle.std.proofs.Common.{◌≡◌, take, slice_get}
use Rattle.std.specs.List.{filter_map}
use Rattle.kq_judge.specs.Allowed.{event_due}
use Rattle.kq_check.proofs.answering.events_in_order.Given as goal

abbrev pub invariant-loop-turn : goal.invariant-loop-turn
invariant-loop-turn g l = record {
  next : l.next ≡ slice_get l.kq.kq.queue l._turn;
  events : l.events.items
      ≡ take l.room (filter_map (event_due (g.V.Views.sees l.views) l.kq.kq.knotes) (take l._turn l.kq.kq.queue));
}

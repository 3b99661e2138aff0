-- The law of the walk for timers: going from moment to moment over a list of timers, giving each that
-- expires one expiration and putting its key at the back of the queue where it is not in it yet, gives
-- each its ticks, and appends the keys of those with a tick in the order of their next ticks, ties in
-- the order of the list.
use Rattle.std.proofs.Common.{◌≡◌, ℕ, ◌+◌, ◌-◌, ◌≤◌, ◌&&◌, leb, ltb, ◌++◌, map, sym, ◌∙◌, arith}
use Rattle.std.specs.Cmp.{IsEquivalence}
use Rattle.std.specs.List.{filter, IsDistinct}
use Rattle.kq_model.specs.Ticks.{last_moment}
use Rattle.kq_model.specs.NextTicks.{ticks_between, next_tick}
use Rattle.kq_model.specs.TimerWalk.{Alarms, Waiting, is_fresh, walked}
use Rattle.kq_model.specs.WalkedAtOnce.{walked_at_once, tickers_at_once, rung_times, in_order, KeepsAlarms, IsFirstPassing}
use Rattle.kq_model.proofs.TicksFirst.{next_tick-is, counted-expired}
use Rattle.kq_model.proofs.TimerWalk.{walked-at_once}

module _ {X Key : Type 0} (a : Alarms X Key) (laws : IsEquivalence a.same) (keeps : KeepsAlarms a)
    (from to : ℕ) (ordered : from ≤ to) (within : to ≤ last_moment) (w : Waiting X Key) (distinct : IsDistinct a.same (map a.key w.items)) where
  first_ticks : (x : X) → IsFirstPassing (a.expires x) from last_moment (next_tick (a.expires x) from)
  first_ticks x = next_tick-is (a.expires x) from (omega arith)

  ticked : (x : X) → leb (next_tick (a.expires x) from) (from + (to - from)) ≡ ltb 0 (ticks_between (a.expires x) from to)
  ticked x = sym (counted-expired (a.expires x) from last_moment (next_tick (a.expires x) from) (to - from) (first_ticks x) (omega arith))

  at_once : walked_at_once a (λ x. next_tick (a.expires x) from) from (to - from) w ≡ tickers_at_once a from to w
  at_once = λ i. record {
    items = map (λ x. rung_times a (ticks_between (a.expires x) from to) x) w.items;
    queue = w.queue ++ map a.key (in_order (λ x. next_tick (a.expires x) from) (filter (λ x. ticked x i && is_fresh a w.queue x) w.items));
  }

  pub walked-tickers : walked a from (to - from) w ≡ tickers_at_once a from to w
  walked-tickers = walked-at_once a laws keeps (λ x. next_tick (a.expires x) from) from last_moment w first_ticks distinct (to - from) (omega arith) ∙ at_once

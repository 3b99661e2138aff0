-- The clock's walk from moment to moment is counting: each timer gets its ticks at once, and those with a
-- tick that are enabled and not in the queue go to its back in the order of their first ticks, ties in
-- order of registration. Spent timers and knotes of other filters have no tick.
use Rattle.std.proofs.Common.{◌≡◌, ℕ, ◌≤◌, refl, ap}
use Rattle.kq_model.specs.Clock.{timers, waiting_of, kqueue_of_waiting, clock_from}
use Rattle.kq_model.specs.Hearing.{Hearing}
use Rattle.kq_model.specs.Kqueue.{Kqueue, HaveOwnKeys}
use Rattle.kq_model.specs.Ticks.{last_moment}
use Rattle.kq_model.specs.WalkedAtOnce.{KeepsAlarms, tickers_at_once}
use Rattle.kq_model.proofs.TimerWalkKeys.{key_eq-laws, distinct_keys}
use Rattle.kq_model.proofs.TimerWalkTickers.{walked-tickers}

timers-keep : {S : Type 0} (h : Hearing S) → KeepsAlarms (timers {h = h})
timers-keep h = record { key = λ k. refl; enabled = λ k. refl; expires = λ k moment. refl }

pub clock_from-at_once : {S : Type 0} {h : Hearing S} (from to : ℕ) (kq : Kqueue h) → from ≤ to → to ≤ last_moment → HaveOwnKeys kq.knotes
    → clock_from from to kq ≡ kqueue_of_waiting (tickers_at_once timers from to (waiting_of kq))
unfolding clock_from
clock_from-at_once {h = h} from to kq ordered within own =
    ap kqueue_of_waiting (walked-tickers timers key_eq-laws (timers-keep h) from to ordered within (waiting_of kq) (distinct_keys kq.knotes own))

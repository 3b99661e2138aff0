-- What the clock does to a kqueue: it goes from moment to moment, and each timer that expires there, in
-- order of registration, gets one expiration, becomes active and, where it is enabled and not in the
-- queue, goes to the back. Source: kqueue(2), EVFILT_TIMER; the order is this project's choice.
use Rattle.std.specs.Prelude.{ℕ, ◌-◌, Bool, true, ◌&&◌, Option, Some, None}
use Rattle.kq_model.specs.declared.key.Key.{Key}
use Rattle.kq_model.specs.Hearing.{Hearing, Expired}
use Rattle.kq_model.specs.Knote.{Knote, key_eq, is_timer}
use Rattle.kq_model.specs.Kqueue.{Kqueue}
use Rattle.kq_model.specs.Ticks.{Ticking, expires}
use Rattle.kq_model.specs.TimerWalk.{Alarms, Waiting, walked}

-- the clock's old moment and its new one, in ns
pub record Span : Type 0 where
  pub from : ℕ
  pub to : ℕ

module _ {S : Type 0} {h : Hearing S} where
  abbrev pub ticking : Knote h → Ticking
  ticking k = record { start = k.start; period = k.period }

  -- one that is ONESHOT expires once only
  abbrev pub expires_at : Knote h → ℕ → Bool
  expires_at k moment = is_timer k.key.filter && expires k.oneshot (ticking k) moment

  abbrev pub expired : Knote h → Knote h
  expired k = record k { seen = h.heard Expired k.seen; active = true }

  abbrev pub timers : Alarms (Knote h) Key
  timers = record {
    key = λ k. k.key;
    same = key_eq;
    enabled = λ k. k.enabled;
    expires = expires_at;
    rung = expired;
  }

  abbrev pub waiting_of : Kqueue h → Waiting (Knote h) Key
  waiting_of kq = record { items = kq.knotes; queue = kq.queue }

  abbrev pub kqueue_of_waiting : Waiting (Knote h) Key → Kqueue h
  kqueue_of_waiting w = record { knotes = w.items; queue = w.queue }

  -- each moment after `from`, up to `to`
  unfoldable pub clock_from : ℕ → ℕ → Kqueue h → Kqueue h
  clock_from from to kq = kqueue_of_waiting (walked timers from (to - from) (waiting_of kq))

  unfoldable pub clocked : Option Span → Kqueue h → Kqueue h
  clocked None kq = kq
  clocked (Some span) kq = clock_from span.from span.to kq

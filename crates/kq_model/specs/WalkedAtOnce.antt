-- What the walk from moment to moment comes to: each item gets all its expirations at once, and those that expired go
-- to the queue's back by their first expirations.
use Rattle.std.specs.Prelude.{◌≡◌, ℕ, zero, suc, ◌+◌, ◌<◌, ◌≤◌, Bool, true, false, ◌&&◌, nat_le, nat_lt}
use Rattle.std.specs.Prelude.{if◌then◌else◌, List, [], ◌∷◌, ◌++◌, map}
use Rattle.std.specs.List.{filter}
use Rattle.kq_model.specs.NextTicks.{counted}
use Rattle.kq_model.specs.NextTicks.{ticks_between, next_tick}
use Rattle.kq_model.specs.TimerWalk.{Alarms, Waiting, is_fresh}

-- the item after so many expirations
unfoldable pub rung_times : {X Key : Type 0} → Alarms X Key → ℕ → X → X
rung_times a zero x = x
rung_times a (suc n) x = a.rung (rung_times a n x)

-- the item before the first that is not earlier
unfoldable pub placed : {X : Type 0} → (X → ℕ) → X → List X → List X
placed first x [] = x ∷ []
placed first x (y ∷ ys) = if nat_le (first x) (first y) then x ∷ y ∷ ys else y ∷ placed first x ys

-- by their first expirations; of two at one moment the first of the list first
unfoldable pub in_order : {X : Type 0} → (X → ℕ) → List X → List X
in_order first [] = []
in_order first (x ∷ xs) = placed first x (in_order first xs)

-- the n moments after `from` at once: each item gets as many expirations as moments at which it expires,
-- and those that expired and are fresh go to the queue's back
abbrev pub walked_at_once : {X Key : Type 0} → Alarms X Key → (X → ℕ) → ℕ → ℕ → Waiting X Key
    → Waiting X Key
walked_at_once a first from n w = record {
  items = map (λ x. rung_times a (counted (a.expires x) from n) x) w.items;
  queue = w.queue
      ++ map a.key (in_order first (filter (λ x. nat_le (first x) (from + n) && is_fresh a w.queue x) w.items));
}

-- the same from `from` to `to`: each item gets its ticks, and those with a tick go to the queue's back in
-- the order of their next ticks after `from`
abbrev pub tickers_at_once : {X Key : Type 0} → Alarms X Key → ℕ → ℕ → Waiting X Key → Waiting X Key
tickers_at_once a from to w = record {
  items = map (λ x. rung_times a (ticks_between (a.expires x) from to) x) w.items;
  queue = w.queue
      ++ map a.key (in_order (λ x. next_tick (a.expires x) from)
      (filter (λ x. nat_lt 0 (ticks_between (a.expires x) from to) && is_fresh a w.queue x) w.items));
}

-- an expiration changes neither an item's key nor when it expires, nor whether it is enabled
pub record KeepsAlarms {X Key : Type 0} (a : Alarms X Key) : Type 0 where
  pub key : (x : X) → a.key (a.rung x) ≡ a.key x
  pub enabled : (x : X) → a.enabled (a.rung x) ≡ a.enabled x
  pub expires : (x : X) (moment : ℕ) → a.expires (a.rung x) moment ≡ a.expires x moment

-- `first` is the first moment after `from` that passes the test, or one after `to`
pub record IsFirstPassing (test : ℕ → Bool) (from to first : ℕ) : Type 0 where
  pub after : from < first
  pub least : (m : ℕ) → from < m → m < first → m ≤ to → test m ≡ false
  pub passes : first ≤ to → test first ≡ true

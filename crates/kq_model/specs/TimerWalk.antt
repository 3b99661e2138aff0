-- The clock goes from moment to moment: each item that expires there, in the order of the list, gets
-- one expiration and, where it is enabled and not in the queue yet, goes to the queue's back.
-- Source: this project's choice; kqueue(2) says that a timer's expirations are counted, and nothing of
-- the order in which events of one call are returned.
use Rattle.std.specs.Prelude.{ℕ, zero, suc, ◌+◌, Bool, not, ◌&&◌, if◌then◌else◌, List, [], ◌∷◌, ◌++◌, map}
use Rattle.std.specs.List.{list_any}

-- what the walk asks of an item and does to it
pub record Alarms (X Key : Type 0) : Type 0 where
  pub key : X → Key
  -- whether two keys are one
  pub same : Key → Key → Bool
  -- whether it may go to the queue
  pub enabled : X → Bool
  pub expires : X → ℕ → Bool
  -- the item with one expiration more
  pub rung : X → X

-- items in the order of their registration, and the keys of those that wait to be retrieved
pub record Waiting (X Key : Type 0) : Type 0 where
  pub items : List X
  pub queue : List Key

abbrev pub is_queued : {X Key : Type 0} → Alarms X Key → List Key → X → Bool
is_queued a queue x = list_any (a.same (a.key x)) queue

-- enabled and not in the queue yet
abbrev pub is_fresh : {X Key : Type 0} → Alarms X Key → List Key → X → Bool
is_fresh a queue x = a.enabled x && not (is_queued a queue x)

abbrev pub rung_at : {X Key : Type 0} → Alarms X Key → ℕ → X → X
rung_at a moment x = if a.expires x moment then a.rung x else x

-- the queue after the items that expire at a moment have gone to its back, the first of the list first
unfoldable pub queue_at : {X Key : Type 0} → Alarms X Key → ℕ → List X → List Key → List Key
queue_at a moment [] queue = queue
queue_at a moment (x ∷ xs) queue =
    queue_at a moment xs (if a.expires x moment && is_fresh a queue x then queue ++ a.key x ∷ [] else queue)

-- one moment
abbrev pub moment_step : {X Key : Type 0} → Alarms X Key → ℕ → Waiting X Key → Waiting X Key
moment_step a moment w = record {
  items = map (rung_at a moment) w.items;
  queue = queue_at a moment w.items w.queue;
}

-- the n moments after `from`, one after another
unfoldable pub walked : {X Key : Type 0} → Alarms X Key → ℕ → ℕ → Waiting X Key → Waiting X Key
walked a from zero w = w
walked a from (suc n) w = moment_step a (from + suc n) (walked a from n w)

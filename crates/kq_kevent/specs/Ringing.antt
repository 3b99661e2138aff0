-- Timers that ring one after the other, each with all its expirations at once, as the code does it.
use Rattle.std.specs.Prelude.{◌≡◌, ℕ, ◌+◌, ◌≤◌, ◌==◌, ◌⊎◌, List, [], ◌∷◌, ◌++◌, filter, Some}
use Rattle.std.specs.List.{AllByRecursion}
use Rattle.std.specs.Option.{option_map}
use Rattle.kq_model.specs.declared.key.Key.{Key}
use Rattle.kq_model.specs.Clock.{expires_at, timers}
use Rattle.kq_model.specs.Knote.{find_knote, with_knote}
use Rattle.kq_model.specs.Registration.{queue_for}
use Rattle.kq_model.specs.Tallied.{Knote, Kqueue}
use Rattle.kq_model.specs.NextTicks.{ticks_between, next_tick}
use Rattle.kq_model.specs.WalkedAtOnce.{rung_times}

-- when a knote expires first after a moment; past the last moment of the clock where it does not
abbrev pub first_of : ℕ → Knote → ℕ
first_of from k = next_tick (expires_at k) from

-- how often it expires after `from` and not after `to`
abbrev pub ticks_of : ℕ → ℕ → Knote → ℕ
ticks_of from to k = ticks_between (expires_at k) from to

-- a knote with these expirations
abbrev pub rung : ℕ → ℕ → Knote → Knote
rung from to k = rung_times timers (ticks_of from to k) k

-- the kqueue after it, with its key where it belongs
abbrev pub with_rung : ℕ → ℕ → Knote → Kqueue → Kqueue
with_rung from to k kq = record {
  knotes = with_knote (rung from to k) kq.knotes;
  queue = queue_for (rung from to k) kq.queue;
}

-- one after the other
unfoldable pub rung_each : ℕ → ℕ → List Knote → Kqueue → Kqueue
rung_each from to [] kq = kq
rung_each from to (k ∷ ks) kq = rung_each from to ks (with_rung from to k kq)

-- those that expire first at this moment
abbrev pub firsts_at : ℕ → ℕ → List Knote → List Knote
firsts_at from moment ks = filter (λ k. first_of from k == moment) ks

-- none of them expires first between these moments
abbrev pub AreOutside : ℕ → ℕ → ℕ → List Knote → Type 0
AreOutside from low high ks =
    AllByRecursion (λ k. (first_of from k ≤ low) ⊎ (high ≤ first_of from k)) ks

-- one of them expires first at this moment, or it is the one behind `to`
abbrev pub IsReached : ℕ → ℕ → List Knote → ℕ → Type 0
IsReached from to ks moment =
    (moment ≡ to + 1) ⊎ ((k : Knote) × (find_knote k.key ks ≡ Some k) × (first_of from k ≡ moment))

-- What the clock does from `from` to `to`, for a user: each knote has its expirations and stays as it is otherwise,
-- none comes or goes, and the queue keeps what it has and may have more behind it.
pub record IsClocked (from to : ℕ) (old new : Kqueue) : Type 0 where
  pub knotes : (key : Key) → find_knote key new.knotes ≡ option_map (rung from to) (find_knote key old.knotes)
  pub more : List Key
  pub queue : new.queue ≡ old.queue ++ more

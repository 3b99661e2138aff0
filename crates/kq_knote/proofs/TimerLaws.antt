-- A knote as a timer: knotes of other filters never expire, and some expirations at once are as many one by one.
use Rattle.std.proofs.Common.{◌≡◌, ℕ, zero, suc, ◌+◌, ◌-◌, ◌<◌, ◌≤◌, min, Bool, true, false, cond, ◌&&◌, refl, sym, ap, ap₂, ◌∙◌, arith}
use Rattle.std.specs.Int.Bits.{or_zero_r}
use Rattle.kq_model.specs.declared.key.Key.{Key}
use Rattle.kq_model.specs.Clock.{expires_at, timers, expired, ticking}
use Rattle.kq_model.specs.Hearing.{Expired, most_counted, notes_of}
use Rattle.kq_model.specs.Tallying.{Tally, tallying}
use Rattle.kq_model.specs.Knote.{is_timer}
use Rattle.kq_model.specs.Tallied.{Knote}
use Rattle.kq_model.specs.Ticks.{last_moment, expires}
use Rattle.kq_model.specs.NextTicks.{counted}
use Rattle.kq_model.specs.NextTicks.{ticks_between, next_tick}
use Rattle.kq_model.specs.WalkedAtOnce.{rung_times}
use Rattle.kq_model.proofs.TicksFirst.{next_tick-none}

-- ---- only a timer expires

pub timer-next : (k : Knote) (from : ℕ) → is_timer k.key.filter ≡ true → next_tick (expires k.oneshot (ticking k)) from ≡ next_tick (expires_at k) from
timer-next k from is = ap (λ b. next_tick (λ m. b && expires k.oneshot (ticking k) m) from) (sym is)

pub timer-ticks : (k : Knote) (from to : ℕ) → is_timer k.key.filter ≡ true → ticks_between (expires k.oneshot (ticking k)) from to ≡ ticks_between (expires_at k) from to
timer-ticks k from to is = ap (λ b. ticks_between (λ m. b && expires k.oneshot (ticking k) m) from to) (sym is)

never : (k : Knote) → is_timer k.key.filter ≡ false → (m : ℕ) → expires_at k m ≡ false
never k is m = ap (λ b. b && expires k.oneshot (ticking k) m) is

pub other-next : (k : Knote) (from : ℕ) → from ≤ last_moment → is_timer k.key.filter ≡ false → suc last_moment ≡ next_tick (expires_at k) from
other-next k from begun is = sym (next_tick-none (expires_at k) from begun (λ m after in_time. never k is m))

counted-none : (test : ℕ → Bool) → ((m : ℕ) → test m ≡ false) → (from n : ℕ) → counted test from n ≡ 0
unfolding counted
counted-none test none from zero = refl
counted-none test none from (suc n) = ap₂ (λ a b. a + cond {A = ℕ} b 1 0) (counted-none test none from n) (none (from + suc n))

pub other-ticks : (k : Knote) (from to : ℕ) → is_timer k.key.filter ≡ false → 0 ≡ ticks_between (expires_at k) from to
other-ticks k from to is = sym (counted-none (expires_at k) (never k is) from (to - from))

-- those of one key, start, period and kind expire at the same moments
pub same_expirations : (a b : Knote) → a.start ≡ b.start → a.period ≡ b.period → a.oneshot ≡ b.oneshot → a.key ≡ b.key → expires_at a ≡ expires_at b
same_expirations a b start period once key =
    ap (λ n. at a.key n a.period a.oneshot) start ∙ ap (λ n. at a.key b.start n a.oneshot) period
    ∙ ap (λ o. at a.key b.start b.period o) once ∙ ap (λ (k : Key). at k b.start b.period b.oneshot) key
  where
    at : Key → ℕ → ℕ → Bool → ℕ → Bool
    at key start period once moment = is_timer key.filter && expires once (record { start = start; period = period }) moment

-- ---- expirations

abbrev with_heard : Knote → ℕ → ℕ → Knote
with_heard k count notes = record k { seen = record { count = count; notes = notes; told = k.seen.told }; active = true }

one_more : (k : Knote) (n : ℕ) → expired {h = tallying} (with_heard k (min (k.seen.count + n) most_counted) k.seen.notes) ≡ with_heard k (min (k.seen.count + suc n) most_counted) k.seen.notes
unfolding notes_of
one_more k n =
    ap₂ (with_heard k) (capped k.seen.count) (or_zero_r k.seen.notes)
  where
    capped : (a : ℕ) → min (min (a + n) most_counted + 1) most_counted ≡ min (a + suc n) most_counted
    capped a = omega arith

first_one : (k : Knote) → expired {h = tallying} k ≡ with_heard k (min (k.seen.count + 1) most_counted) k.seen.notes
unfolding notes_of
first_one k = ap (with_heard k (min (k.seen.count + 1) most_counted)) (or_zero_r k.seen.notes)

rung-some : (n : ℕ) (k : Knote) → rung_times (timers {h = tallying}) (suc n) k ≡ with_heard k (min (k.seen.count + suc n) most_counted) k.seen.notes
unfolding rung_times
rung-some zero k = first_one k
rung-some (suc n) k = ap (expired {h = tallying}) (rung-some n k) ∙ one_more k (suc n)

pub rung-times : (n : ℕ) (k : Knote) → 0 < n → with_heard k (min (k.seen.count + n) most_counted) k.seen.notes ≡ rung_times (timers {h = tallying}) n k
rung-times zero k some = absurd (omega (arith, some))
rung-times (suc n) k some = sym (rung-some n k)

pub rung-none : (n : ℕ) (k : Knote) → n ≤ 0 → k ≡ rung_times (timers {h = tallying}) n k
unfolding rung_times
rung-none zero k none = refl
rung-none (suc n) k none = absurd (omega (arith, none))

-- what the code writes
pub rings : (before now after : Knote) (tally : Tally) (times n : ℕ) → before ≡ now
    → tally ≡ record { count = min (before.seen.count + times) most_counted; notes = before.seen.notes; told = before.seen.told }
    → after ≡ record before { seen = tally; active = true } → times ≡ n → 0 < times → after ≡ rung_times (timers {h = tallying}) n now
rings before now after tally times n is counted became many some =
    became ∙ ap (λ (t : Tally). record before { seen = t; active = true }) counted
    ∙ ap (λ (k : Knote). with_heard k (min (k.seen.count + times) most_counted) k.seen.notes) is
    ∙ rung-times times now some ∙ ap (λ m. rung_times (timers {h = tallying}) m now) many

-- one that had come already where the timer was set
pub expired-once : (t : Tally) (count : ℕ) → count ≡ min (t.count + 1) most_counted
    → record { count = count; notes = t.notes; told = t.told } ≡ tallying.heard Expired t
unfolding notes_of
expired-once t count is = ap₂ with_both is (sym (or_zero_r t.notes))
  where
    with_both : ℕ → ℕ → Tally
    with_both n notes = record { count = n; notes = notes; told = t.told }

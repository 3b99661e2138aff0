-- How often a timer expires in a span, and when next: what the code finds by a division.
use Rattle.std.specs.Prelude.{◌≡◌, ℕ, zero, suc, ◌+◌, ◌-◌, ◌<◌, ◌≤◌, Bool, true, false, nat_le}
use Rattle.std.specs.Prelude.{if◌then◌else◌, ℤ, pos, ◌<ℤ◌}
use Rattle.kq_model.specs.Ticks.{last_moment}

-- how many of the n moments after `from` pass the test
unfoldable pub counted : (ℕ → Bool) → ℕ → ℕ → ℕ
counted test from zero = 0
counted test from (suc n) = counted test from n + (if test (from + suc n) then 1 else 0)

-- how often a timer that expires at these moments does so after `from` and not after `to`
abbrev pub ticks_between : (ℕ → Bool) → ℕ → ℕ → ℕ
ticks_between expires from to = counted expires from (to - from)

-- its first moment after `from`; where it is past the last moment, it never comes
pub record IsNextTick (expires : ℕ → Bool) (from : ℤ) (moment : ℕ) : Type 0 where
  pub after : from <ℤ pos moment
  pub tick : expires moment ≡ true
  pub least : (m : ℕ) → from <ℤ pos m → m < moment → expires m ≡ false

-- it never expires after `from`
abbrev pub HasNoTick : (ℕ → Bool) → ℤ → Type 0
HasNoTick expires from = (m : ℕ) → from <ℤ pos m → m ≤ last_moment → expires m ≡ false

-- the first of the n moments after `from` that passes the test, or else the moment after them all
unfoldable pub first_passing : (ℕ → Bool) → ℕ → ℕ → ℕ
first_passing test from zero = suc from
first_passing test from (suc n) =
    if nat_le (first_passing test from n) (from + n)
    then first_passing test from n
    else (if test (from + suc n) then from + suc n else suc (from + suc n))

-- the moment at which the timer expires next, or else the one after the last moment
abbrev pub next_tick : (ℕ → Bool) → ℕ → ℕ
next_tick expires from = first_passing expires from (last_moment - from)

-- When a timer expires, and how often. Moments and periods are in nanoseconds.
-- Source: kqueue(2), EVFILT_TIMER: a timer is periodic, its data is the period in the unit that its
-- fflags name, milliseconds where they name none, and its events count the expirations; with NOTE_ABSTIME its data is
-- the moment at which it expires.
-- This project's choice: the clock counts from 0, its last moment is 2^63 - 1, two units and unknown
-- bits are refused, and a period of 0 units counts as 1. NOTE_ABSTIME is known from version 2 of the trace's format on.
use Rattle.std.specs.Prelude.{ℕ, zero, suc, ◌+◌, ◌-◌, ◌*◌, max}
use Rattle.std.specs.Prelude.{Bool, false, not, ◌&&◌, ◌||◌, ◌==◌}
use Rattle.std.specs.Prelude.{nat_le, if◌then◌else◌, ℤ, pos, negsuc, Option, Some, None}
use Rattle.std.specs.Option.{option_and_then, option_map}
use Rattle.kq_model.specs.Bits.{has_note, abstime_note}

-- 2^63 - 1
abbrev pub last_moment : ℕ
last_moment = 9223372036854775807

-- the nanoseconds of the unit that fflags name: seconds 1, milliseconds 2, microseconds 4, nanoseconds 8
abbrev pub unit_of : ℕ → Option ℕ
unit_of fflags =
    if fflags == 0 then Some 1000000 else (
    if fflags == 1 then Some 1000000000 else (
    if fflags == 2 then Some 1000000 else (
    if fflags == 4 then Some 1000 else (
    if fflags == 8 then Some 1 else None))))

-- so many units, if that is a moment
abbrev pub units : ℕ → ℕ → Option ℕ
units amount unit = if nat_le (amount * unit) last_moment then Some (amount * unit) else None

-- the period of a timer with this data and these fflags, if they are allowed
abbrev pub period_of : ℤ → ℕ → Option ℕ
period_of (pos amount) fflags = option_and_then (units (max amount 1)) (unit_of fflags)
period_of (negsuc _) fflags = None

-- the moment, counted from the clock's 0, of a timer with this data and the unit of these fflags, if they are allowed
abbrev pub named_moment : ℤ → ℕ → Option ℕ
named_moment (pos amount) fflags = option_and_then (units amount) (unit_of fflags)
named_moment (negsuc _) fflags = None

-- what a timer is to do: to expire one period after the other from its start on, or once, at a moment
pub data Timing : Type 0 where
  Every : ℕ → Timing
  At : ℕ → Timing

-- data is a moment
abbrev pub is_absolute : ℕ → ℕ → Bool
is_absolute version fflags = not (version == 1) && has_note fflags abstime_note

-- what data and fflags say in this version of the trace's format, if they are allowed; of a moment the bits beside
-- NOTE_ABSTIME name its unit
abbrev pub timing_of : ℕ → ℤ → ℕ → Option Timing
timing_of version datum fflags =
    if is_absolute version fflags
    then option_map At (named_moment datum (fflags - abstime_note))
    else option_map Every (period_of datum fflags)

-- a timer that was started at a moment; without a period, which is 0 then, it expires at that moment alone
pub record Ticking : Type 0 where
  pub start : ℕ
  pub period : ℕ

-- whether it expires at one moment alone, which is its start: it has no period
abbrev pub is_single_moment : Ticking → Bool
is_single_moment t = t.period == 0

-- whether a moment is one of the first so many: start + period, start + 2 periods, ..
unfoldable pub is_among_first : ℕ → Ticking → ℕ → Bool
is_among_first zero t moment = false
is_among_first (suc k) t moment = (t.start + suc k * t.period == moment) || is_among_first k t moment

-- whether the timer expires at a moment. A period is at least 1, so a tick at `moment` is among the first `moment`
-- ticks
unfoldable pub is_tick : Ticking → ℕ → Bool
is_tick t moment = if is_single_moment t then t.start == moment else is_among_first moment t moment

-- the moments of a timer that may expire once only: the first of them alone (kqueue(2), EV_ONESHOT)
abbrev pub expires : Bool → Ticking → ℕ → Bool
expires once t moment = is_tick t moment && (not once || (moment == t.start + t.period))

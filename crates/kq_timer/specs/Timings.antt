-- What the code's timings and tickers say.
use Rattle.std.specs.Prelude.{◌≤ℤ◌, ℤ, pos, unsigned_abs, Option, IfSome, MatchOption}
use Rattle.kq_model.specs.Ticks as ticks
use Rattle.kq_model.specs.Ticks.{Ticking, is_tick}
use Rattle.kq_model.specs.NextTicks.{ticks_between, IsNextTick, HasNoTick}
use Rattle.kq_timer.specs.declared.ticker.Kind.{Kind}
use Rattle.kq_timer.specs.declared.ticker.Kind.TheVariants.{Repeats, Once}
use Rattle.kq_timer.specs.declared.timing.Timing.{Timing}
use Rattle.kq_timer.specs.declared.timing.Timing.TheVariants.{Every, At}

-- in the words of the definitions
abbrev pub timing : Timing → ticks.Timing
timing (Every period) = ticks.Every period
timing (At moment) = ticks.At moment

-- as the code has it
abbrev pub coded : ticks.Timing → Timing
coded (ticks.Every period) = Every period
coded (ticks.At moment) = At moment

-- started at a moment
abbrev pub started_at : ℤ → Timing → Kind
started_at start (Every period) = Repeats (record { start = unsigned_abs start; period = period })
started_at start (At moment) = Once moment

-- the timer of the definitions: what expires at one moment alone starts there, and has no period
abbrev pub ticking_of : Kind → Ticking
ticking_of (Repeats t) = t
ticking_of (Once moment) = record { start = moment; period = 0 }

-- how often it expires after `from` and not after `to`
abbrev pub ticks_of : Kind → ℤ → ℤ → ℤ
ticks_of k from to = pos (ticks_between (is_tick (ticking_of k)) (unsigned_abs from) (unsigned_abs to))

-- the moment at which it expires first after `from`, where it does so up to the last moment of the clock
abbrev pub IsFirstAfter : Kind → ℤ → Option ℤ → Type 0
IsFirstAfter k from found =
    MatchOption found (HasNoTick (is_tick (ticking_of k)) from)
    (λ moment. IsNextTick (is_tick (ticking_of k)) from (unsigned_abs moment))
    × IfSome found (λ moment. pos 0 ≤ℤ moment)

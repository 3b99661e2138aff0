-- Timers at a moment, by example. A step of the clock is computed moment by moment, so its rows are in nanoseconds.
use Rattle.std.specs.Prelude.{◌≡◌, ◌+◌, ℕ, ℤ, pos, negsuc, [], ◌∷◌, map, replicate, Some, None}
use Rattle.std.proofs.Common.{refl}
use Rattle.kq_model.specs.declared.change.Change.{Change}
use Rattle.kq_model.specs.declared.event.Event.{Event}
use Rattle.kq_model.specs.declared.event.Event.TheVariants.{Clock}
use Rattle.kq_model.specs.declared.filter.Filter.TheVariants.{Timer}
use Rattle.kq_model.specs.declared.kevent.Kevent.{Kevent}
use Rattle.kq_model.specs.declared.reply.Reply.TheVariants.{Events}
use Rattle.kq_model.specs.Bits.{add, delete, enable, disable, oneshot, clear, error}
use Rattle.kq_model.specs.ProcessPlans.{plan_clock, plan_clock_at}
use Rattle.kq_model.specs.System.{rows}
use Rattle.kq_model.specs.Ticks.{Every, At, timing_of, is_among_first, is_tick}
use Rattle.kq_model.specs.NextTicks.{counted}
use Rattle.kq_model.specs.TimerWalk.{queue_at, walked}
use Rattle.kq_model.proofs.Builders.{kevent, opened, rows_from}
use Rattle.kq_model.proofs.Opened.{system_opened}

abbrev change : ℕ → ℕ → ℕ → ℤ → Change
change ident flags fflags datum =
    record { ident = ident; filter = Timer; flags = record { 0 = flags }; fflags = fflags; datum = datum; udata = 0 }

abbrev timer : ℕ → ℕ → ℕ → Change
timer ident fflags datum = change ident add fflags (pos datum)

-- it expired so often
abbrev told : ℕ → ℕ → ℕ → Kevent
told ident flags times = record { ident = ident; filter = Timer; flags = record { 0 = flags }; fflags = 0; datum = pos times; udata = 0 }

abbrev refused : ℕ → ℕ → ℕ → Kevent
refused ident fflags number =
    record { ident = ident; filter = Timer; flags = record { 0 = error }; fflags = fflags; datum = pos number; udata = 0 }

abbrev clock : ℕ → Event
clock moment = Clock (pos moment)

-- ---- what data and fflags say

-- the moment in the named unit, milliseconds where none is named, and 0 is moment 0
moments_named : timing_of 2 (pos 7) 16 ∷ timing_of 2 (pos 7) 17 ∷ timing_of 2 (pos 7) 18 ∷ timing_of 2 (pos 7) 20 ∷ timing_of 2 (pos 7) 24
    ∷ timing_of 2 (pos 0) 16 ∷ timing_of 2 (pos 9223372036854775807) 24 ∷ []
    ≡ map Some (At 7000000 ∷ At 7000000000 ∷ At 7000000 ∷ At 7000 ∷ At 7 ∷ At 0 ∷ At 9223372036854775807 ∷ [])
moments_named = refl

-- two units, another bit, a negative moment, one past the last
moments_refused : timing_of 2 (pos 1) 22 ∷ timing_of 2 (pos 1) 48 ∷ timing_of 2 (pos 1) 32 ∷ timing_of 2 (negsuc 0) 16
    ∷ timing_of 2 (pos 9223372037) 17 ∷ []
    ≡ replicate 5 None
moments_refused = refl

-- a period is what it was, and version 1 knows no moments
periods_named : timing_of 2 (pos 0) 8 ∷ timing_of 2 (pos 3) 0 ∷ timing_of 1 (pos 3) 0 ∷ timing_of 1 (pos 7) 16 ∷ timing_of 1 (pos 7) 24 ∷ []
    ≡ Some (Every 1) ∷ Some (Every 3000000) ∷ Some (Every 3000000) ∷ None ∷ None ∷ []
periods_named = refl

-- ---- runs

-- one whose moment has come is told at once, the others at their moments, each once
pub at_a_moment : rows 2 (opened (
    clock 5
    ∷ kevent (timer 1 24 7 ∷ timer 2 24 5 ∷ timer 3 24 9 ∷ []) 4
    ∷ clock 20
    ∷ kevent [] 4
    ∷ clock 30
    ∷ kevent [] 4
    ∷ kevent (timer 4 22 1 ∷ []) 1
    ∷ kevent (timer 4 17 9223372037 ∷ []) 1 ∷ []))
    ≡ record { at = 4; reply = Events (told 2 clear 1 ∷ []) }
    ∷ record { at = 6; reply = Events (told 1 clear 1 ∷ told 3 clear 1 ∷ []) }
    ∷ rows_from 8 (Events [] ∷ Events (refused 4 22 22 ∷ []) ∷ Events (refused 4 17 22 ∷ []) ∷ [])
unfolding system_opened walked queue_at is_tick is_among_first counted plan_clock plan_clock_at
at_a_moment = refl

-- version 1 refuses them
pub at_no_moment : rows 1 (opened (
    clock 5
    ∷ kevent (timer 1 16 7 ∷ timer 2 16 5 ∷ timer 3 16 9 ∷ []) 4 ∷ []))
    ≡ rows_from 4 (Events (refused 1 16 22 ∷ refused 2 16 22 ∷ refused 3 16 22 ∷ []) ∷ [])
unfolding system_opened walked queue_at is_tick is_among_first counted plan_clock plan_clock_at
at_no_moment = refl

-- moment 0 has always come; ONESHOT is gone when it was told, and after DISABLE the ENABLE tells
pub come_already : rows 2 (opened (
    kevent (timer 1 24 0 ∷ change 2 (add + oneshot) 24 (pos 0) ∷ change 3 (add + disable) 24 (pos 0) ∷ []) 4
    ∷ kevent (change 3 enable 0 (pos 0) ∷ []) 4
    ∷ kevent (change 2 delete 0 (pos 0) ∷ []) 4 ∷ []))
    ≡ rows_from 3 (
    Events (told 1 clear 1 ∷ told 2 (oneshot + clear) 1 ∷ [])
    ∷ Events (told 3 clear 1 ∷ [])
    ∷ Events (refused 2 0 2 ∷ []) ∷ [])
unfolding system_opened walked queue_at is_tick is_among_first counted plan_clock plan_clock_at
come_already = refl

-- added again either kind becomes the other, and what was heard is forgotten
pub turned_into_the_other : rows 2 (opened (
    kevent (timer 1 24 3 ∷ timer 2 8 2 ∷ []) 0
    ∷ clock 4
    ∷ kevent (timer 1 8 2 ∷ timer 2 24 7 ∷ []) 4
    ∷ clock 9
    ∷ kevent [] 4 ∷ []))
    ≡ record { at = 3; reply = Events [] }
    ∷ record { at = 5; reply = Events [] }
    ∷ record { at = 7; reply = Events (told 1 clear 2 ∷ told 2 clear 1 ∷ []) } ∷ []
unfolding system_opened walked queue_at is_tick is_among_first counted plan_clock plan_clock_at
turned_into_the_other = refl

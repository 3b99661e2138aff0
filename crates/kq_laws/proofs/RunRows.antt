-- A run by example: a process watches the reading end of a pipe and has a timer of 10 ns. The clock goes on, bytes come, and it
-- polls. And a run of version 2, in which it follows the children of another process.
use Rattle.std.proofs.Common.{◌≡◌, ℕ, ◌+◌, pos, List, [], ◌∷◌, refl}
use Rattle.kq_model.specs.declared.change.Change.{Change}
use Rattle.kq_model.specs.declared.event.Event.{Event}
use Rattle.kq_model.specs.declared.event.Event.TheVariants as record_of
use Rattle.kq_model.specs.declared.filter.Filter.{Filter}
use Rattle.kq_model.specs.declared.filter.Filter.TheVariants as by
use Rattle.kq_model.specs.declared.kevent.Kevent.{Kevent}
use Rattle.kq_model.specs.declared.reply.Reply.{Reply}
use Rattle.kq_model.specs.declared.reply.Reply.TheVariants.{Events}
use Rattle.kq_model.specs.Bits.{add, clear, fork_note, track_note, child_note}
use Rattle.kq_model.specs.ObjectRecordPlans.{with_objects, plan_act, plan_at, unless_open, if_live, plan_pipe}
use Rattle.kq_model.specs.ProcessPlans.{plan_clock, plan_clock_at, plan_fork}
use Rattle.kq_model.specs.System.{empty_system, step, system_after}
use Rattle.kq_model.specs.Tallied.{System}
use Rattle.kq_model.specs.TimerWalk.{queue_at, walked}
use Rattle.kq_model.specs.Ticks.{is_among_first, is_tick}
use Rattle.kq_model.specs.NextTicks.{counted}
use Rattle.kq_model.proofs.ObjectBuilders.{objects_opened}
use Rattle.kq_model.proofs.Opened.{system_opened}
use Rattle.kq_laws.specs.Runs.{last_returned_over}
use Rattle.kq_laws.specs.Timers.{timer}

abbrev adds : Filter → ℕ → ℕ → ℕ → Change
adds filter ident fflags datum =
    record { ident = ident; filter = filter; flags = record { 0 = add }; fflags = fflags; datum = pos datum; udata = 0 }

-- with room for so many events
abbrev kevent : List Change → ℕ → Event
kevent changes room = record_of.Kevent 1 9 changes room

-- the pipe of 64 bytes is read at 3 and written at 4; the timer is number 7
abbrev first : List Event
first =
    record_of.Proc 1 ∷ record_of.Kqueue 1 9 ∷ record_of.Pipe 1 3 4 64
    ∷ kevent (adds by.Timer 7 8 10 ∷ adds by.Read 3 0 0 ∷ []) 0 ∷ record_of.Clock (pos 35) ∷ []

-- a poll, bytes come, and the clock goes on to 60
abbrev later : List Event
later = kevent [] 4 ∷ record_of.Write 1 4 5 ∷ record_of.Clock (pos 60) ∷ []

abbrev start : System
start = empty_system 1

abbrev early : System
early = system_after 1 start first

abbrev late : System
late = system_after 6 early later

abbrev polled : ℕ → System → Reply
polled place s = (step place (kevent [] 4) s).reply

abbrev expired : ℕ → Kevent
expired times = record { ident = 7; filter = by.Timer; flags = record { 0 = clear }; fflags = 0; datum = pos times; udata = 0 }

abbrev readable : ℕ → Kevent
readable bytes = record { ident = 3; filter = by.Read; flags = record { 0 = 0 }; fflags = 0; datum = pos bytes; udata = 0 }

-- at 10, 20 and 30
three_at_first : polled 6 early ≡ Events (expired 3 ∷ [])
unfolding system_opened objects_opened walked queue_at is_tick is_among_first counted with_objects plan_act plan_at unless_open if_live plan_pipe plan_clock plan_clock_at
three_at_first = refl

-- the bytes came first; and at 40, 50 and 60
both_wait : polled 9 late ≡ Events (readable 5 ∷ expired 3 ∷ [])
unfolding system_opened objects_opened walked queue_at is_tick is_among_first counted with_objects plan_act plan_at unless_open if_live plan_pipe plan_clock plan_clock_at
both_wait = refl

-- level-triggered: the next poll returns the bytes again
bytes_stay : polled 10 (step 9 (kevent [] 4) late).system ≡ Events (readable 5 ∷ [])
unfolding system_opened objects_opened walked queue_at is_tick is_among_first counted with_objects plan_act plan_at unless_open if_live plan_pipe plan_clock plan_clock_at
bytes_stay = refl

-- by the first poll, of the kqueue that the second record made
returned_then : last_returned_over (timer 7) 2 6 early later 0 ≡ 35
unfolding system_opened objects_opened walked queue_at is_tick is_among_first counted with_objects plan_act plan_at unless_open if_live plan_pipe plan_clock plan_clock_at
returned_then = refl

-- ---- children

abbrev told : ℕ → ℕ → ℕ → Kevent
told pid fflags datum = record {
  ident = pid;
  filter = by.Proc;
  flags = record { 0 = clear };
  fflags = fflags;
  datum = pos datum;
  udata = 0;
}

-- process 2 is followed, and forks process 3
abbrev forked : System
forked = system_after 1 (empty_system 2) (
    record_of.Proc 1 ∷ record_of.Kqueue 1 9 ∷ record_of.Proc 2
    ∷ kevent (adds by.Proc 2 (fork_note + track_note) 0 ∷ []) 0 ∷ record_of.Fork 2 3 ∷ [])

-- with room for one event, the fork is told first
parent_first : (step 6 (kevent [] 1) forked).reply ≡ Events (told 2 fork_note 0 ∷ [])
unfolding system_opened plan_fork
parent_first = refl

-- the notice of the child waits, and is told once
child_then : (step 7 (kevent [] 1) (step 6 (kevent [] 1) forked).system).reply ≡ Events (told 3 child_note 2 ∷ [])
unfolding system_opened plan_fork
child_then = refl

told_once : (step 7 (kevent [] 4) (step 6 (kevent [] 4) forked).system).reply ≡ Events []
unfolding system_opened plan_fork
told_once = refl

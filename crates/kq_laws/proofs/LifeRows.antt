-- A life by example: a timer of 10 ns and the reading end of a pipe, with a clock that goes on and bytes that come.
use Rattle.std.proofs.Common.{◌≡◌, ℕ, pos, true, List, [], ◌∷◌, ◌++◌, Some, refl}
use Rattle.kq_model.specs.declared.change.Change.{Change}
use Rattle.kq_model.specs.declared.filter.Filter.{Filter}
use Rattle.kq_model.specs.declared.filter.Filter.TheVariants as by
use Rattle.kq_model.specs.declared.kevent.Kevent.{Kevent}
use Rattle.kq_model.specs.declared.object.Hint.TheVariants as hint
use Rattle.kq_model.specs.declared.object.Named.TheVariants as on
use Rattle.kq_model.specs.declared.object.Target.TheVariants as target
use Rattle.kq_model.specs.declared.object.View.TheVariants as view
use Rattle.kq_model.specs.declared.reply.Reply.{Reply}
use Rattle.kq_model.specs.declared.reply.Reply.TheVariants.{Events}
use Rattle.kq_model.specs.Bits.{add, clear}
use Rattle.kq_model.specs.Call.{call}
use Rattle.kq_model.specs.Caller.{Caller}
use Rattle.kq_model.specs.TimerWalk.{queue_at, walked}
use Rattle.kq_model.specs.Ticks.{is_among_first, is_tick}
use Rattle.kq_model.specs.NextTicks.{counted}
use Rattle.kq_model.specs.Views.{Views}
use Rattle.kq_model.proofs.Opened.{system_opened}
use Rattle.kq_laws.specs.Life.{Life, Step, Hints, Passes, Calls, born, lived}
use Rattle.kq_laws.specs.Timers.{timer, last_returned}

-- a pipe with so many bytes, and the clock
abbrev world : ℕ → ℕ → Views
world bytes now = record {
  view = λ _. Some (view.Pipe (pos bytes) (pos 64) true true);
  descriptor = λ _ _. Some (on.PipeRead 1);
  now = now;
}

abbrev caller : ℕ → ℕ → Caller
caller bytes now = record { views = world bytes now; owner = 1; version = 1 }

abbrev adds : Filter → ℕ → ℕ → ℕ → Change
adds filter ident fflags datum =
    record { ident = ident; filter = filter; flags = record { 0 = add }; fflags = fflags; datum = pos datum; udata = 0 }

-- both are added, then the clock goes on to 35
abbrev first : List Step
first = Calls (caller 0 0) (adds by.Timer 7 8 10 ∷ adds by.Read 3 0 0 ∷ []) 0 ∷ Passes 35 ∷ []

-- a poll, and then the clock goes on to 60
abbrev second : List Step
second = first ++ Calls (caller 0 35) [] 4 ∷ Passes 60 ∷ []

-- bytes come, which is hinted
abbrev third : List Step
third = second ++ Hints ((target.Pipe 1, hint.Readable) ∷ []) (world 5 60) ∷ []

abbrev after : List Step → Life
after steps = lived steps (born 1 0 (world 0 0))

abbrev polled : Caller → List Step → Reply
polled by steps = (call by 4 [] (after steps).kq).reply

abbrev expired : ℕ → Kevent
expired times = record { ident = 7; filter = by.Timer; flags = record { 0 = clear }; fflags = 0; datum = pos times; udata = 0 }

abbrev readable : ℕ → Kevent
readable bytes = record { ident = 3; filter = by.Read; flags = record { 0 = 0 }; fflags = 0; datum = pos bytes; udata = 0 }

-- at 10, 20 and 30
three_at_first : polled (caller 0 35) first ≡ Events (expired 3 ∷ [])
unfolding system_opened walked queue_at is_tick is_among_first counted
three_at_first = refl

-- at 40, 50 and 60, since it was last returned
three_more : polled (caller 0 60) second ≡ Events (expired 3 ∷ [])
unfolding system_opened walked queue_at is_tick is_among_first counted
three_more = refl

returned_then : last_returned (timer 7) second (born 1 0 (world 0 0)) 0 ≡ 35
unfolding system_opened walked queue_at is_tick is_among_first counted
returned_then = refl

-- level-triggered: what waits behind the timer is returned too, and again by the next poll
bytes_come : polled (caller 5 60) third ≡ Events (expired 3 ∷ readable 5 ∷ [])
unfolding system_opened walked queue_at is_tick is_among_first counted
bytes_come = refl

bytes_stay : polled (caller 5 60) (third ++ Calls (caller 5 60) [] 4 ∷ []) ≡ Events (readable 5 ∷ [])
unfolding system_opened walked queue_at is_tick is_among_first counted
bytes_stay = refl

-- What a possible record says to the kqueues, and what it makes of one of them.
use Rattle.std.specs.Prelude.{ℕ, ◌==◌, List, Option, Some, None, if◌then◌else◌}
use Rattle.kq_model.specs.Call as kevent
use Rattle.kq_model.specs.Caller.{Caller}
use Rattle.kq_model.specs.Clock.{Span, clocked}
use Rattle.kq_model.specs.Close.{Pair, closed}
use Rattle.kq_model.specs.Hearing.{Hearing}
use Rattle.kq_model.specs.Following.{followed}
use Rattle.kq_model.specs.Hints.{notified}
use Rattle.kq_model.specs.Kqueue.{Kqueue}
use Rattle.kq_model.specs.Targets.{Posted}
use Rattle.kq_model.specs.Views.{Views}
use Rattle.kq_model.specs.Objects.{Keeping}
use Rattle.kq_model.specs.World.{World, Call, Plan, carried_out, seen_world, views_of}

pub record Moment : Type 0 where
  -- of the record in its trace
  pub place : ℕ
  -- of the trace's format
  pub version : ℕ
  pub closed : List Pair
  pub hints : List Posted
  pub clock : Option Span
  pub call : Option Call
  -- those of the world after the whole record
  pub views : Views

-- the record at this place, whose plan is carried out in this world
unfoldable pub moment_of : {A B C D : Type 0} {k : Keeping A B C D} → ℕ → ℕ → Plan → World k → Moment
moment_of version place p w = record {
  place = place;
  version = version;
  closed = p.closed;
  hints = p.hints;
  clock = p.clock;
  call = p.call;
  views = views_of (seen_world (carried_out place p w));
}

-- a process that calls at this moment
abbrev pub caller_at : ℕ → Moment → Caller
caller_at owner m = record { views = m.views; owner = owner; version = m.version }

module _ {S : Type 0} {h : Hearing S} where
  -- what comes before a call: closes, then hints, then the children that are followed, then the clock
  unfoldable pub happened : ℕ → Moment → Kqueue h → Kqueue h
  happened owner m kq =
      clocked m.clock (followed m.version m.hints (notified m.views m.hints (closed owner m.closed kq)))

  -- the call of this kqueue, and of no other
  unfoldable pub called_at : ℕ → Moment → Call → Kqueue h → kevent.Called h
  called_at owner m c kq = kevent.call (caller_at owner m) c.room c.changes (happened owner m kq)

  unfoldable pub after_call : ℕ → ℕ → Moment → Option Call → Kqueue h → Kqueue h
  after_call kqueue owner m None kq = happened owner m kq
  after_call kqueue owner m (Some c) kq =
      if c.kqueue == kqueue then (called_at owner m c kq).kq else happened owner m kq

  -- the step of the kqueue that was made at a place
  unfoldable pub kqueue_step : ℕ → ℕ → Moment → Kqueue h → Kqueue h
  kqueue_step kqueue owner m kq = after_call kqueue owner m m.call kq

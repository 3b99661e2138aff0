-- The system: the world and all live kqueues. One event is one step, and a trace is a fold of steps;
-- the definition knows no worker, thread or merge.
use Rattle.std.specs.Prelude.{ℕ, ◌+◌, ◌==◌, not, List, [], ◌∷◌, ◌++◌, map, filter, Option}
use Rattle.std.specs.Prelude.{Some, None, if◌then◌else◌}
use Rattle.kq_model.specs.declared.event.Event.{Event}
use Rattle.kq_model.specs.declared.reply.Reply.{Reply}
use Rattle.kq_model.specs.declared.reply.Reply.TheVariants as reply
use Rattle.kq_model.specs.declared.row.Row.{Row}
use Rattle.kq_model.specs.Close.{Pair, has_pair}
use Rattle.kq_model.specs.Hearing.{Hearing, listed}
use Rattle.kq_model.specs.Kqueue.{Kqueue, empty_kqueue}
use Rattle.kq_model.specs.Moment.{Moment, moment_of, called_at, kqueue_step}
use Rattle.kq_model.specs.Objects as objects
use Rattle.kq_model.specs.Objects.{Keeping}
use Rattle.kq_model.specs.Plans.{plan}
use Rattle.kq_model.specs.World.{World, empty_world, seen_world, Call, Planned, Impossible, Possible, carried_out}

-- a kqueue with the place of the record that made it, the pid of its owner and the number that names it there
pub record Live {S : Type 0} (h : Hearing S) : Type 0 where
  pub place : ℕ
  pub owner : ℕ
  pub number : ℕ
  pub kq : Kqueue h

-- the live kqueues stand by rising place of birth; the version is that of the trace's format;
-- `h` says how what knotes heard is kept, `k` how objects are
pub record System {S A B C D : Type 0} (h : Hearing S) (k : Keeping A B C D) : Type 0 where
  pub version : ℕ
  pub world : World k
  pub live : List (Live h)

pub record Stepped {S A B C D : Type 0} (h : Hearing S) (k : Keeping A B C D) : Type 0 where
  pub system : System h k
  pub reply : Reply
  -- whose row this is: the kqueue of a call
  pub kqueue : Option ℕ

unfoldable pub kqueue_of : Option Call → Option ℕ
kqueue_of None = None
kqueue_of (Some c) = Some c.kqueue

module _ {S : Type 0} {h : Hearing S} where
  -- ---- the live kqueues

  unfoldable pub stepped : Moment → Live h → Live h
  stepped m l = record l { kq = kqueue_step l.place l.owner m l.kq }

  -- a kqueue ends with its number, and the others make their step
  unfoldable pub lived : Moment → List (Live h) → List (Live h)
  lived m live = map (stepped m) (filter (λ (l : Live h). not (has_pair l.owner l.number m.closed)) live)

  unfoldable pub born : ℕ → Option Pair → List (Live h)
  born place None = []
  born place (Some p) = record { place = place; owner = p.pid; number = p.number; kq = empty_kqueue } ∷ []

  -- ---- the answer

  unfoldable pub answer : Moment → Call → List (Live h) → Reply
  answer m c [] = reply.Done
  answer m c (l ∷ ls) = if c.kqueue == l.place then (called_at l.owner m c l.kq).reply else answer m c ls

  unfoldable pub reply_to : Moment → Option Call → List (Live h) → Reply
  reply_to m None live = reply.Done
  reply_to m (Some c) live = answer m c live

-- ---- one step

module _ {S A B C D : Type 0} {h : Hearing S} {k : Keeping A B C D} where
  abbrev pub empty_system : ℕ → System h k
  empty_system version = record { version = version; world = empty_world k; live = [] }

  unfoldable pub step_by : ℕ → Planned → System h k → Stepped h k
  step_by place (Impossible why) s = record { system = s; reply = reply.Impossible why; kqueue = None }
  step_by place (Possible p) s = record {
    system = record s {
      world = carried_out place p s.world;
      live = lived (moment_of s.version place p s.world) s.live ++ born place p.born;
    };
    reply = reply_to (moment_of s.version place p s.world) p.call s.live;
    kqueue = kqueue_of p.call;
  }

  unfoldable pub step : ℕ → Event → System h k → Stepped h k
  step place e s = step_by place (plan place e (seen_world s.world)) s

  unfoldable pub system_after : ℕ → System h k → List Event → System h k
  system_after place s [] = s
  system_after place s (e ∷ es) = system_after (place + 1) (step place e s).system es

-- ---- the fold of a trace, whose first event has place 1

-- a row for each answer of a kevent call and each impossible record
unfoldable pub row_of : ℕ → Reply → List Row
row_of place reply.Done = []
row_of place (reply.Events events) = record { at = place; reply = reply.Events events } ∷ []
row_of place (reply.Failed e) = record { at = place; reply = reply.Failed e } ∷ []
row_of place (reply.Impossible why) = record { at = place; reply = reply.Impossible why } ∷ []

unfoldable pub rows_after : {S A B C D : Type 0} {h : Hearing S} {k : Keeping A B C D}
    → ℕ → System h k → List Event → List Row
rows_after place s [] = []
rows_after place s (e ∷ es) = row_of place (step place e s).reply ++ rows_after (place + 1) (step place e s).system es

-- the rows, however what was heard and the objects are kept
unfoldable pub rows_by : {S A B C D : Type 0} (h : Hearing S) (k : Keeping A B C D) → ℕ → List Event → List Row
rows_by h k version events = rows_after 1 (empty_system {h = h} {k = k} version) events

unfoldable pub rows : ℕ → List Event → List Row
rows version events = rows_by listed objects.listed version events

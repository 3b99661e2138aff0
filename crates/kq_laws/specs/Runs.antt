-- Runs of the whole system: the events of a trace, one after the other from its start.
use Rattle.std.specs.Prelude.{◌≡◌, ◌≤◌, ◌==◌, ◌&&◌, ◌+◌, ℕ, Bool, false, List, []}
use Rattle.std.specs.Prelude.{◌∷◌, Option, None, Some}
use Rattle.std.specs.Prelude.{if◌then◌else◌, length, All}
use Rattle.kq_model.specs.declared.change.Change.{Change}
use Rattle.kq_model.specs.declared.event.Event.{Event}
use Rattle.kq_model.specs.declared.event.Event.TheVariants.{Kevent}
use Rattle.kq_model.specs.declared.key.Key.{Key}
use Rattle.kq_model.specs.declared.object.Named.TheVariants as named
use Rattle.kq_model.specs.declared.reply.Reply.{Reply}
use Rattle.kq_model.specs.CallLaws.{AreQuiet, kqueue_after_changes}
use Rattle.kq_model.specs.Caller.{Caller}
use Rattle.kq_model.specs.Plans.{plan}
use Rattle.kq_model.specs.System.{empty_system, step, system_after}
use Rattle.kq_model.specs.Tallied.{Live, Stepped, System}
use Rattle.kq_model.specs.Ticks.{last_moment}
use Rattle.kq_model.specs.World.{Plan, Possible, named_by, seen_world, views_of}
use Rattle.kq_laws.specs.Timers.{timer, returns, CountsAll}
use Rattle.kq_laws.specs.Wakes.{IsAnnounced, ReturnsDue}

-- the system is what so many events led to, which are these
pub record HaveLedTo (events : List Event) (applied : ℕ) (s : System) : Type 0 where
  pub count : length events ≡ applied
  pub reached : system_after 1 (empty_system s.version) events ≡ s

-- a kqueue whose knotes each have a hint, where the plan of a record makes their conditions hold
abbrev pub IsToldBy : Plan → System → System → Live → Type 0
IsToldBy p old new l =
    All (IsAnnounced (views_of (seen_world old.world)) p.hints (views_of (seen_world new.world))) l.kq.knotes

-- The events led to the old system, and one more leads to the new one. Then it hints each condition that it makes
-- hold, of each knote of each kqueue.
abbrev pub AnnouncesAll : ℕ → Event → System → System → Type 0
AnnouncesAll applied e old new =
    (events : List Event) → HaveLedTo events applied old
    → (p : Plan) → plan (applied + 1) e (seen_world old.world) ≡ Possible p → All (IsToldBy p old new) old.live

-- ---- a call

-- the kqueue that was made at a place
abbrev pub find_live : ℕ → List Live → Option Live
find_live place [] = None
find_live place (l ∷ live) = if place == l.place then Some l else find_live place live

-- the event at this place is a kevent call, with these changes and room for so many events, of a number that names
-- this live kqueue; and it is possible
pub record IsCallOf (place : ℕ) (e : Event) (s : System) (l : Live) (changes : List Change)
    (room : ℕ) : Type 0 where
  pub pid : ℕ
  pub number : ℕ
  pub event : e ≡ Kevent pid number changes room
  pub names : named_by pid number (seen_world s.world) ≡ Some (named.Kqueue l.place)
  pub live : find_live l.place s.live ≡ Some l
  pub does : Plan
  pub possible : plan place e (seen_world s.world) ≡ Possible does

-- the owner of the kqueue, in this system
abbrev pub owner_in : System → Live → Caller
owner_in s l = record { views = views_of (seen_world s.world); owner = l.owner; version = s.version }

-- ---- no lost wake-up

-- The events led to the old system, and the next is a call whose changes place no entry, as one without changes. Then
-- it returns what is due, the notices of children too.
abbrev pub ReturnsAllDue : ℕ → Event → System → System → Reply → Type 0
ReturnsAllDue applied e old new reply =
    (events : List Event) → HaveLedTo events applied old
    → (l : Live) (changes : List Change) (room : ℕ) → IsCallOf (applied + 1) e old l changes room
    → AreQuiet (owner_in new l) changes l.kq
    → ReturnsDue (views_of (seen_world new.world)) room
    (kqueue_after_changes (owner_in new l) room changes l.kq) reply

-- ---- timers

-- it is the kqueue of a row
abbrev pub is_of : ℕ → Option ℕ → Bool
is_of kqueue None = false
is_of kqueue (Some place) = place == kqueue

-- The moment at which a knote of a kqueue was last returned: that of this row, where the row does so, and else the
-- earlier moment.
abbrev pub returned_by : Key → ℕ → Stepped → ℕ → ℕ
returned_by key kqueue row earlier =
    if is_of kqueue row.kqueue && returns key row.reply then row.system.world.now else earlier

-- over events, of which the first has this place
abbrev pub last_returned_over : Key → ℕ → ℕ → System → List Event → ℕ → ℕ
last_returned_over key kqueue place s [] earlier = earlier
last_returned_over key kqueue place s (e ∷ events) earlier =
    last_returned_over key kqueue (place + 1) (step place e s).system events
    (returned_by key kqueue (step place e s) earlier)

-- The events led to the old system, whose clock is a moment that can be told, and the next is a call. Then its reply
-- tells of each timer of the kqueue how often it expired since it was last returned; before it was, since moment 0,
-- and a timer expires only after its start.
abbrev pub CountsExpirations : ℕ → Event → System → System → Reply → Type 0
CountsExpirations applied e old new reply =
    (ident : ℕ) (events : List Event) → HaveLedTo events applied old → old.world.now ≤ last_moment
    → (l : Live) (changes : List Change) (room : ℕ) → IsCallOf (applied + 1) e old l changes room
    → CountsAll ident (kqueue_after_changes (owner_in new l) room changes l.kq).knotes
    (last_returned_over (timer ident) l.place 1 (empty_system old.version) events 0) new.world.now reply

-- What is told of a child (kqueue(2), EVFILT_PROC, NOTE_CHILD): an event says so only after a fork of the child, and
-- names its parent.
use Rattle.std.specs.Prelude.{◌≡◌, ◌+◌, ℕ, pos, true, false, List, ◌∷◌, ◌++◌, length, Some, None}
use Rattle.kq_model.specs.declared.change.Change.{Change}
use Rattle.kq_model.specs.declared.event.Event.{Event}
use Rattle.kq_model.specs.declared.event.Event.TheVariants.{Fork}
use Rattle.kq_model.specs.declared.filter.Filter.TheVariants.{Proc}
use Rattle.kq_model.specs.declared.kevent.Kevent.{Kevent}
use Rattle.kq_model.specs.declared.reply.Reply.{Reply}
use Rattle.kq_model.specs.declared.reply.Reply.TheVariants.{Events}
use Rattle.kq_model.specs.Bits.{asks, error, has_note, child_note}
use Rattle.kq_model.specs.CallLaws.{Each}
use Rattle.kq_model.specs.Following.{follows, process_key}
use Rattle.kq_model.specs.Knote.{find_knote}
use Rattle.kq_model.specs.Plans.{plan}
use Rattle.kq_model.specs.System.{empty_system, system_after}
use Rattle.kq_model.specs.Tallied.{Knote, Live, System}
use Rattle.kq_model.specs.World.{Plan, Possible, seen_world}
use Rattle.kq_laws.specs.Runs.{HaveLedTo, IsCallOf, find_live}

-- an event of a PROC knote with NOTE_CHILD, and not the entry that answers a change
pub record TellsOfChild (event : Kevent) : Type 0 where
  pub filter : event.filter ≡ Proc
  pub no_entry : asks event.flags error ≡ false
  pub child : has_note event.fflags child_note ≡ true

-- One of these events, which lead from the start of a trace of a version, is a fork of the child by the parent, and it
-- is possible there. The kqueue that was made at a place has a knote of the parent then, which follows, and none of the
-- child: its knote is made by this fork.
pub record WasForked (version : ℕ) (events : List Event) (place parent child : ℕ) : Type 0 where
  pub earlier : List Event
  pub later : List Event
  pub split : events ≡ earlier ++ Fork parent child ∷ later
  pub before : System
  pub reached : system_after 1 (empty_system version) earlier ≡ before
  pub does : Plan
  pub possible : plan (length earlier + 1) (Fork parent child) (seen_world before.world) ≡ Possible does
  pub kqueue : Live
  pub live : find_live place before.live ≡ Some kqueue
  pub knote : Knote
  pub there : find_knote (process_key parent) kqueue.kq.knotes ≡ Some knote
  pub follows : follows parent knote ≡ true
  pub none : find_knote (process_key child) kqueue.kq.knotes ≡ None

-- the event tells of a child only after its fork, and its data is the parent's pid
abbrev pub TellsOfFork : ℕ → List Event → ℕ → Kevent → Type 0
TellsOfFork version events place event =
    TellsOfChild event → (parent : ℕ) × (event.datum ≡ pos parent) × WasForked version events place parent event.ident

-- The events led to the old system, and the next is a call on the kqueue that was made at a place. Then each event of
-- its answer tells of a child only after its fork.
abbrev pub TellsOfForks : ℕ → Event → System → Reply → Type 0
TellsOfForks applied e old reply =
    (events : List Event) → HaveLedTo events applied old
    → (l : Live) (changes : List Change) (room : ℕ) → IsCallOf (applied + 1) e old l changes room
    → (answer : List Kevent) → reply ≡ Events answer → Each (TellsOfFork old.version events l.place) answer

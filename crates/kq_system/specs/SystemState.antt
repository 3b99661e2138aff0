-- The system of the code as contracts see it, and how its tables stand for the model's lists.
use Rattle.std.specs.Prelude.{◌≡◌, ◌≤◌, ℕ, Bool, not, List, [], ◌∷◌, map}
use Rattle.std.specs.Prelude.{filter, Some, None}
use Rattle.std.specs.Map.{keys_of}
use Rattle.kq_kevent.specs.Owned.{OwnedKqueue}
use Rattle.kq_model.specs.declared.event.Event.{Event}
use Rattle.kq_model.specs.declared.reply.Reply.{Reply}
use Rattle.kq_model.specs.declared.why.Why.{Why}
use Rattle.kq_model.specs.Clock.{Span, clocked}
use Rattle.kq_model.specs.Close.{Pair, closed, has_pair}
use Rattle.kq_model.specs.Following.{followed}
use Rattle.kq_model.specs.Hints.{notified}
use Rattle.kq_model.specs.Moment.{Moment}
use Rattle.kq_model.specs.Plans.{plan}
use Rattle.kq_model.specs.System as system
use Rattle.kq_model.specs.Tallied.{Live, System, World}
use Rattle.kq_model.specs.Targets.{Posted}
use Rattle.kq_model.specs.Views.{Views}
use Rattle.kq_model.specs.WatchedNumbers.{AllWatchTheirNumbers}
use Rattle.kq_model.specs.World.{Call, Plan, Impossible, Possible, idle, seen_world}
use Rattle.kq_process.specs.declared.world.World as code
use Rattle.kq_process.specs.World.{last_of, world_of}

-- ---- what contracts see of a system, and the system that it is

pub record SystemState : Type 0 where
  pub version : ℕ
  pub world : code.World
  pub live : List Live
  -- events so far
  pub applied : ℕ

abbrev pub system_of : SystemState → System
system_of s = record { version = s.version; world = world_of s.world; live = s.live }

-- a kqueue with the number under which its process opened it
pub record NumberedKqueue : Type 0 where
  pub number : ℕ
  pub kq : OwnedKqueue
  -- the round in which it was shown a record last
  pub shown : ℕ
  -- its number was closed in that round
  pub ended : Bool

-- by the place of its birth
abbrev pub live_of : ℕ × NumberedKqueue → Live
live_of e = record { place = e.0; owner = e.1.kq.owner; number = e.1.number; kq = e.1.kq.kq }

-- what is seen of the code's system with these tables
abbrev pub state_of : ℕ → code.World → List (ℕ × NumberedKqueue) → ℕ → SystemState
state_of version world live applied = record {
  version = version;
  world = world;
  live = map live_of live;
  applied = applied;
}

-- ---- what calls promise

-- nothing has changed
abbrev pub IsUnchanged : SystemState → SystemState → Type 0
IsUnchanged old new = (system_of new ≡ system_of old) × (new.applied ≡ old.applied)

-- the event at this place takes the old system to the new one, with this reply
abbrev pub IsStep : ℕ → Event → System → System → Reply → Type 0
IsStep place event old new reply =
    (new ≡ (system.step place event old).system) × (reply ≡ (system.step place event old).reply)

-- the event can't happen at this place in this system
abbrev pub IsImpossible : ℕ → Event → System → Type 0
IsImpossible place event old = (why : Why) × (plan place event (seen_world old.world) ≡ Impossible why)

-- the plan of a call, and of nothing else
abbrev pub call_plan : Call → Plan
call_plan c = record idle { call = Some c }

-- the call at this moment takes the old live kqueues to the new ones, with this reply
abbrev pub IsCalled : Moment → Call → List Live → List Live → Reply → Type 0
IsCalled m c old new reply = (new ≡ system.lived m old) × (reply ≡ system.answer m c old)

-- the record calls no kqueue, makes none and leaves the clock as it is, where it is possible
pub record IsPlain (event : Event) : Type 0 where
  pub call : (place : ℕ) (w : World) (p : Plan) → plan place event w ≡ Possible p → p.call ≡ None
  pub born : (place : ℕ) (w : World) (p : Plan) → plan place event w ≡ Possible p → p.born ≡ None
  pub clock : (place : ℕ) (w : World) (p : Plan) → plan place event w ≡ Possible p → p.clock ≡ None

-- ---- what a record does to the kqueues

-- a moment without closes, hints and clock
pub record IsQuiet (m : Moment) : Type 0 where
  pub closed : m.closed ≡ []
  pub hints : m.hints ≡ []
  pub clock : m.clock ≡ None

-- a kqueue that goes on and is not called: closes, then hints
abbrev pub happened_to : List Pair → List Posted → Views → Live → Live
happened_to pairs hints views l = record l { kq = notified views hints (closed l.owner pairs l.kq) }

-- one whose clock goes on by this span
abbrev pub ticked : Span → Live → Live
ticked span l = record l { kq = clocked (Some span) l.kq }

-- one whose own number is closed ends
abbrev pub goes_on : List Pair → Live → Bool
goes_on pairs l = not (has_pair l.owner l.number pairs)

abbrev pub happened_to_all : List Pair → List Posted → Views → List Live → List Live
happened_to_all pairs hints views live = map (happened_to pairs hints views) (filter (goes_on pairs) live)

-- a kqueue that hears of a fork, and then follows the child: none of its numbers is closed
abbrev pub followed_to : ℕ → List Posted → Views → Live → Live
followed_to version hints views l = record l { kq = followed version hints (notified views hints l.kq) }

-- ---- what every system of the code keeps

-- the numbers are at most this one
abbrev pub AreUpTo : ℕ → List ℕ → Type 0
AreUpTo most [] = Unit {0}
AreUpTo most (n ∷ ns) = (n ≤ most) × AreUpTo most ns

-- the kqueues go by this version of the trace's format
abbrev pub AreOfVersion : ℕ → List (ℕ × NumberedKqueue) → Type 0
AreOfVersion version [] = Unit {0}
AreOfVersion version (e ∷ es) = (e.1.kq.version ≡ version) × AreOfVersion version es

-- no kqueue came, and those that stay go by the version that they went by
pub record HaveStayed (old new : List (ℕ × NumberedKqueue)) : Type 0 where
  pub of_version : (version : ℕ) → AreOfVersion version old → AreOfVersion version new
  pub up_to : (most : ℕ) → AreUpTo most (keys_of old) → AreUpTo most (keys_of new)

pub record IsLawful (version applied : ℕ) (world : code.World) (live : List (ℕ × NumberedKqueue)) : Type 0 where
  pub of_version : AreOfVersion version live
  -- no place of birth is later than the last event
  pub born : AreUpTo applied (keys_of live)
  -- each READ, WRITE or VNODE knote watches what its number names
  pub watched : AllWatchTheirNumbers (record { version = version; world = world_of world; live = map live_of live })
  -- the next record comes after all that the world has seen
  pub places : last_of world ≤ applied

-- The live kqueue that a number names; and a kevent call of the system in two steps, as kq_kevent/specs/Beginning.antt
-- has them of one kqueue: its changes, and then, where these gave no answer, the retrieval. Between the two, the queue
-- may be put into another order.
use Rattle.std.specs.Prelude.{◌≡◌, ◌==◌, ◌⊎◌, ℕ, List, [], ◌∷◌, map, nat_eq, Option}
use Rattle.std.specs.Prelude.{Some, None, option_and_then}
use Rattle.std.specs.Prelude.{if◌then◌else◌}
use Rattle.std.specs.Map.{lookup}
use Rattle.kq_kevent.specs.Arranged.{arranged}
use Rattle.kq_kevent.specs.Beginning as kevent
use Rattle.kq_kevent.specs.Owned.{OwnedKqueue}
use Rattle.kq_model.specs.declared.change.Change.{Change}
use Rattle.kq_model.specs.declared.event.Event.{Event}
use Rattle.kq_model.specs.declared.event.Event.TheVariants.{Kevent}
use Rattle.kq_model.specs.declared.key.Key.{Key}
use Rattle.kq_model.specs.declared.object.Named.{Named}
use Rattle.kq_model.specs.declared.object.Named.TheVariants as named
use Rattle.kq_model.specs.declared.reply.Reply.{Reply}
use Rattle.kq_model.specs.declared.reply.Reply.TheVariants as reply
use Rattle.kq_model.specs.declared.why.Why.{Why}
use Rattle.kq_model.specs.Caller.{Caller}
use Rattle.kq_model.specs.Hearing.{Hearing, listed}
use Rattle.kq_model.specs.Kqueue.{Kqueue}
use Rattle.kq_model.specs.Moment.{Moment, moment_of, caller_at}
use Rattle.kq_model.specs.Objects as objects
use Rattle.kq_model.specs.Objects.{Keeping}
use Rattle.kq_model.specs.Plans.{plan}
use Rattle.kq_model.specs.Recast.{tallied_system}
use Rattle.kq_model.specs.System as model
use Rattle.kq_model.specs.Tallied.{Live, System}
use Rattle.kq_model.specs.Views.{Views}
use Rattle.kq_model.specs.World.{Call, Planned, Impossible, Possible, named_by, seen_world, views_of}
use Rattle.kq_system.specs.SystemState.{IsCalled, IsStep, NumberedKqueue}

-- ---- the kqueue that a number names

-- the place at which it was made
unfoldable pub kqueue_in : Option Named → Option ℕ
kqueue_in (Some (named.Kqueue place)) = Some place
kqueue_in _ = None

module _ {S : Type 0} {h : Hearing S} where
  unfoldable pub live_at : ℕ → List (model.Live h) → Option (model.Live h)
  live_at place [] = None
  live_at place (l ∷ ls) = if place == l.place then Some l else live_at place ls

  -- what becomes of all where something is done with the one that was made at a place
  abbrev pub with_live_at : ℕ → (model.Live h → Kqueue h) → List (model.Live h) → List (model.Live h)
  with_live_at place does live =
      map (λ (l : model.Live h). if place == l.place then record l { kq = does l } else l) live

module _ {S A B C D : Type 0} {h : Hearing S} {k : Keeping A B C D} where
  abbrev pub place_named : ℕ → ℕ → model.System h k → Option ℕ
  place_named pid number s = kqueue_in (named_by pid number (seen_world s.world))

  abbrev pub live_named : ℕ → ℕ → model.System h k → Option (model.Live h)
  live_named pid number s = option_and_then (λ place. live_at place s.live) (place_named pid number s)

-- the kqueue of the code is the live one that was found, and goes by this version of the trace's format
pub record IsLiveOne (found : Option Live) (version : ℕ) (kq : OwnedKqueue) : Type 0 where
  pub live : Live
  pub is : found ≡ Some live
  pub kq_is : kq.kq ≡ live.kq
  pub owner_is : kq.owner ≡ live.owner
  pub version_is : kq.version ≡ version

-- the kqueue of the code stands in the table under its place
abbrev pub IsEntry : ℕ → List (ℕ × NumberedKqueue) → OwnedKqueue → Type 0
IsEntry place entries kq = (v : NumberedKqueue) × (lookup (nat_eq place) entries ≡ Some v) × (kq ≡ v.kq)

-- ---- a call begins

pub record Begun {S A B C D : Type 0} (h : Hearing S) (k : Keeping A B C D) : Type 0 where
  pub system : model.System h k
  -- the answer of the call; none where it goes on to read events
  pub answer : Option Reply

-- the call of one kqueue, at this moment
abbrev pub begun_kqueue : {S : Type 0} {h : Hearing S} → Moment → Call → model.Live h → kevent.Begun h
begun_kqueue m c l = kevent.begun (caller_at l.owner m) c.room c.changes l.kq

module _ {S A B C D : Type 0} {h : Hearing S} {k : Keeping A B C D} where
  unfoldable pub begun_on : Moment → Option Call → model.System h k → Begun h k
  begun_on m None s = record { system = s; answer = None }
  begun_on m (Some c) s = record {
    system = record s { live = with_live_at c.kqueue (λ l. (begun_kqueue m c l).kq) s.live };
    answer = option_and_then (λ l. (begun_kqueue m c l).answer) (live_at c.kqueue s.live);
  }

  unfoldable pub begun_by : ℕ → Planned → model.System h k → Begun h k
  begun_by place (Impossible why) s = record { system = s; answer = Some (reply.Impossible why) }
  begun_by place (Possible p) s = begun_on (moment_of s.version place p s.world) p.call s

  -- the call at this place
  unfoldable pub begun : ℕ → Event → model.System h k → Begun h k
  begun place e s = begun_by place (plan place e (seen_world s.world)) s

-- a call of one of the live kqueues began at this moment
abbrev pub IsBegunAt : Moment → Call → List Live → List Live → Option Reply → Type 0
IsBegunAt m c old new answer =
    (new ≡ with_live_at c.kqueue (λ l. (begun_kqueue m c l).kq) old)
    × (answer ≡ option_and_then (λ l. (begun_kqueue m c l).answer) (live_at c.kqueue old))

-- With this answer it is over. With none it goes on as the call without changes does at the second moment.
abbrev pub IsCallSoFar : Moment → Moment → Call → List Live → List Live → Option Reply → Type 0
IsCallSoFar m n c old new (Some reply) = IsCalled m c old new reply
IsCallSoFar m n c old new None =
    (last : List Live) × (reply : Reply) × IsCalled m c old last reply
    × IsCalled n (record c { changes = [] }) new last reply

-- a call that began takes the old system to the new one, with this answer
abbrev pub IsBeginning : ℕ → Event → System → System → Option Reply → Type 0
IsBeginning place e old new answer = (new ≡ (begun place e old).system) × (answer ≡ (begun place e old).answer)

-- the same in tallies and quantities
abbrev pub IsTalliedBeginning : System → Option Reply → Begun listed objects.listed → Type 0
IsTalliedBeginning system answer b = (system ≡ tallied_system b.system) × (answer ≡ b.answer)

-- With this answer the call is over, and was this step. With none it goes on as a call without changes does from here,
-- and that is then the step.
abbrev pub IsStepSoFar : ℕ → ℕ → ℕ → List Change → ℕ → System → System → Option Reply → Type 0
IsStepSoFar place pid fd changes room old new (Some reply) = IsStep place (Kevent pid fd changes room) old new reply
IsStepSoFar place pid fd changes room old new None =
    (last : System) (reply : Reply) → IsStep place (Kevent pid fd [] room) new last reply
    → IsStep place (Kevent pid fd changes room) old last reply

-- ---- another order

-- these keys come first in the queue of the kqueue that was made at a place
unfoldable pub arranged_at : {S : Type 0} {h : Hearing S} → Option ℕ → List Key → List (model.Live h)
    → List (model.Live h)
arranged_at None keys live = live
arranged_at (Some place) keys live = with_live_at place (λ l. record l.kq { queue = arranged keys l.kq.queue }) live

-- of that which a number names
abbrev pub arranged_in : {S A B C D : Type 0} {h : Hearing S} {k : Keeping A B C D} → ℕ → ℕ → List Key
    → model.System h k → model.System h k
arranged_in pid number keys s = record s { live = arranged_at (place_named pid number s) keys s.live }

-- ---- what that is for the kqueue that the number names

-- the changes of a call of this one, unless the call is impossible
abbrev pub IsBegunOf : Caller → ℕ → List Change → Live → Option Live → Option Reply → Type 0
IsBegunOf by room changes l new answer =
    ((why : Why) × (answer ≡ Some (reply.Impossible why)))
    ⊎ ((answer ≡ (kevent.begun by room changes l.kq).answer)
    × (new ≡ Some (record l { kq = (kevent.begun by room changes l.kq).kq })))

-- the retrieval
abbrev pub IsReadOf : Views → ℕ → Live → Option Live → Reply → Type 0
IsReadOf views room l new answer =
    ((why : Why) × (answer ≡ reply.Impossible why))
    ⊎ ((answer ≡ (kevent.read views room l.kq).reply)
    × (new ≡ Some (record l { kq = (kevent.read views room l.kq).kq })))

-- the owner of a live kqueue of a system as it calls
abbrev pub owner_of : System → Live → Caller
owner_of s l = record { views = views_of (seen_world s.world); owner = l.owner; version = s.version }

-- with these keys of its queue first
abbrev pub arranged_live : List Key → Live → Live
arranged_live keys l = record l { kq = record l.kq { queue = arranged keys l.kq.queue } }

-- Children that are followed (kqueue(2), EVFILT_PROC, NOTE_TRACK): a fork brings a knote for the child to each kqueue
-- whose knote of the parent follows.
use Rattle.std.specs.Prelude.{◌≡◌, ◌+◌, ℕ, true, List, [], ◌∷◌, ◌++◌, Some, None}
use Rattle.kq_model.specs.declared.event.Event.{Event}
use Rattle.kq_model.specs.declared.event.Event.TheVariants.{Fork}
use Rattle.kq_model.specs.declared.key.Key.{Key}
use Rattle.kq_model.specs.declared.object.Target.TheVariants.{Process}
use Rattle.kq_model.specs.Following as following
use Rattle.kq_model.specs.Following.{follows, process_key}
use Rattle.kq_model.specs.Knote.{find_knote}
use Rattle.kq_model.specs.Plans.{plan}
use Rattle.kq_model.specs.RegistrationLaws.{keys_of}
use Rattle.kq_model.specs.Tallied.{Knote, Kqueue, Live, System}
use Rattle.kq_model.specs.Tallying.{tallying}
use Rattle.kq_model.specs.World.{Plan, Possible, seen_world}
use Rattle.kq_laws.specs.Runs.{HaveLedTo, find_live}

-- the knote is what the child gets by the knote of its parent, as that one was before the fork
pub record IsHeir (f : following.Fork) (parent knote : Knote) : Type 0 where
  -- it watches the child
  pub key : knote.key ≡ process_key f.child
  pub target : knote.target ≡ Some (Process f.child)
  -- its parameters are the parent's, so that it follows the child's own children
  pub fflags : knote.fflags ≡ parent.fflags
  pub datum : knote.datum ≡ parent.datum
  pub udata : knote.udata ≡ parent.udata
  -- its actions too
  pub oneshot : knote.oneshot ≡ parent.oneshot
  pub clear : knote.clear ≡ parent.clear
  pub dispatch : knote.dispatch ≡ parent.dispatch
  -- it may be returned, also where the parent's is disabled
  pub enabled : knote.enabled ≡ true
  pub active : knote.active ≡ true
  -- it has heard nothing, and its notice names the parent
  pub silent : knote.seen ≡ tallying.empty
  pub notice : knote.notice ≡ Some f.parent

-- the kqueue `before` became `after`, which has such a knote
pub record AwaitsChild (f : following.Fork) (parent : Knote) (before after : Kqueue) : Type 0 where
  pub knote : Knote
  pub heir : IsHeir f parent knote
  pub found : find_knote (process_key f.child) after.knotes ≡ Some knote
  -- all others are there in their order of registration, and it is the last
  pub last : keys_of after.knotes ≡ keys_of before.knotes ++ process_key f.child ∷ []
  -- it waits at the back of the queue: in front of it those that waited, in their order, and those that begin to wait
  -- as they hear of the fork
  pub beginning : List Key
  pub back : after.queue ≡ before.queue ++ beginning ++ process_key f.child ∷ []

-- the kqueue goes on, and so it stands in the new system
abbrev pub AwaitsThere : following.Fork → Knote → Live → System → Type 0
AwaitsThere f parent old new =
    (l : Live) × (find_live old.place new.live ≡ Some l) × AwaitsChild f parent old.kq l.kq

-- The events led to the old system, which is of version 2, and the next is a fork that is possible. Then each kqueue
-- that has a knote of the parent which follows, and no PROC knote of the child, has one of the child afterwards.
abbrev pub FollowsChildren : ℕ → Event → System → System → Type 0
FollowsChildren applied e old new =
    (events : List Event) → HaveLedTo events applied old → old.version ≡ 2
    → (pid child : ℕ) → e ≡ Fork pid child → (p : Plan)
    → plan (applied + 1) e (seen_world old.world) ≡ Possible p
    → (l : Live) → find_live l.place old.live ≡ Some l
    → (parent : Knote) → find_knote (process_key pid) l.kq.knotes ≡ Some parent → follows pid parent ≡ true
    → find_knote (process_key child) l.kq.knotes ≡ None
    → AwaitsThere (record { parent = pid; child = child }) parent l new

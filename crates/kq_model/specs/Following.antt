-- Children that knotes follow: where a PROC knote has NOTE_TRACK, each child that its process forks gets a knote
-- with its parameters and actions, which shows the parent's pid first (kqueue(2), EVFILT_PROC). That the notice and
-- what the child does are one knote, where it stands in order and queue, and that a told notice resets nothing are this
-- project's choices.
use Rattle.std.specs.Prelude.{ℕ, ◌==◌, Bool, true, false, ◌&&◌, List, [], ◌∷◌, ◌++◌, Option}
use Rattle.std.specs.Prelude.{Some, None}
use Rattle.std.specs.Prelude.{if◌then◌else◌}
use Rattle.kq_model.specs.declared.filter.Filter.TheVariants.{Proc}
use Rattle.kq_model.specs.declared.key.Key.{Key}
use Rattle.kq_model.specs.declared.object.Hint.{Hint}
use Rattle.kq_model.specs.declared.object.Hint.TheVariants.{Child}
use Rattle.kq_model.specs.declared.object.Target.{Target}
use Rattle.kq_model.specs.declared.object.Target.TheVariants.{Process}
use Rattle.kq_model.specs.Bits.{has_note, track_note}
use Rattle.kq_model.specs.Hearing.{Hearing}
use Rattle.kq_model.specs.Knote.{Knote, find_knote}
use Rattle.kq_model.specs.Kqueue.{Kqueue}
use Rattle.kq_model.specs.Registration.{with_made}
use Rattle.kq_model.specs.Targets.{Posted, is_target}

-- ---- forks

-- a process forked a child
pub record Fork : Type 0 where
  pub parent : ℕ
  pub child : ℕ

-- what a hint says of a fork
unfoldable pub forks_of : Target → Hint → List Fork
forks_of (Process pid) (Child child) = record { parent = pid; child = child } ∷ []
forks_of _ _ = []

-- of which the hints of a record tell, in their order
unfoldable pub all_forks : List Posted → List Fork
all_forks [] = []
all_forks (p ∷ posted) = forks_of p.0 p.1 ++ all_forks posted

-- version 1 follows nobody
abbrev pub forks_in : ℕ → List Posted → List Fork
forks_in version posted = if version == 1 then [] else all_forks posted

-- ---- the knotes of children

abbrev pub process_key : ℕ → Key
process_key pid = record { ident = pid; filter = Proc }

module _ {S : Type 0} {h : Hearing S} where
  -- the knote of a process follows its children
  abbrev pub follows : ℕ → Knote h → Bool
  follows pid k = is_target k.target (Process pid) && has_note k.fflags track_note

  unfoldable pub is_follower : ℕ → Option (Knote h) → Bool
  is_follower pid None = false
  is_follower pid (Some k) = follows pid k

  -- the children of this process are followed
  abbrev pub tracks : ℕ → Kqueue h → Bool
  tracks pid kq = is_follower pid (find_knote (process_key pid) kq.knotes)

  -- The child's knote has the parameters and actions of the parent's as it is now. It is enabled, has heard nothing and
  -- has its notice, so it is active.
  abbrev pub child_knote : Fork → Knote h → Knote h
  child_knote f k = record k {
    key = process_key f.child;
    target = Some (Process f.child);
    enabled = true;
    active = true;
    seen = h.empty;
    notice = Some f.parent;
  }

  -- the knote that the child gets, by the parent's knote and the one that the child may have already
  unfoldable pub heir : Fork → Option (Knote h) → Option (Knote h) → Option (Knote h)
  heir f (Some k) None = if follows f.parent k then Some (child_knote f k) else None
  heir f None _ = None
  heir f _ (Some x) = None

  -- last in order of registration, and at the back of the queue
  unfoldable pub with_heir : Option (Knote h) → Kqueue h → Kqueue h
  with_heir None kq = kq
  with_heir (Some k) kq = with_made k kq

  abbrev pub heir_in : Fork → Kqueue h → Option (Knote h)
  heir_in f kq = heir f (find_knote (process_key f.parent) kq.knotes) (find_knote (process_key f.child) kq.knotes)

  unfoldable pub followed_each : List Fork → Kqueue h → Kqueue h
  followed_each [] kq = kq
  followed_each (f ∷ fs) kq = followed_each fs (with_heir (heir_in f kq) kq)

  -- after all hints of the record were heard
  abbrev pub followed : ℕ → List Posted → Kqueue h → Kqueue h
  followed version posted kq = followed_each (forks_in version posted) kq

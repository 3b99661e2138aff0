-- A fork, as it comes to the live kqueues: what they are prepared for, and what it does to one of them.
use Rattle.std.specs.Prelude.{◌≡◌, ◌≤◌, ℕ, true, List, [], ◌∷◌, Some, nat_eq}
use Rattle.std.specs.Map.{lookup}
use Rattle.std.specs.HashMap.{HashMap}
use Rattle.kq_model.specs.declared.object.Target.{Target}
use Rattle.kq_model.specs.declared.object.Target.TheVariants.{Process}
use Rattle.kq_model.specs.Following.{followed, tracks}
use Rattle.kq_model.specs.Hints.{notified}
use Rattle.kq_model.specs.Kqueue.{HaveOwnKeys}
use Rattle.kq_model.specs.ProcessPlans.{forked}
use Rattle.kq_model.specs.Targets.{Posted}
use Rattle.kq_model.specs.Views.{Views}
use Rattle.kq_kevent.specs.Owned.{HasRoomToFollow}
use Rattle.kq_system.specs.Places.{has_place}
use Rattle.kq_system.specs.Showing.{places_of}
use Rattle.kq_system.specs.SystemState.{NumberedKqueue}

-- ---- before the fork

-- it has more room perhaps, and is else as it was
pub record IsRoomier (v w : NumberedKqueue) : Type 0 where
  pub number : w.number ≡ v.number
  pub owner : w.kq.owner ≡ v.kq.owner
  pub version : w.kq.version ≡ v.kq.version
  pub kq : w.kq.kq ≡ v.kq.kq
  pub room : v.kq.room ≤ w.kq.room
  pub shown : w.shown ≡ v.shown
  pub ended : w.ended ≡ v.ended

-- so are all of them
abbrev pub AreRoomier : List (ℕ × NumberedKqueue) → List (ℕ × NumberedKqueue) → Type 0
AreRoomier [] [] = Unit {0}
AreRoomier [] (n ∷ ns) = ⊥
AreRoomier (e ∷ es) [] = ⊥
AreRoomier (e ∷ es) (n ∷ ns) = (n.0 ≡ e.0) × IsRoomier e.1 n.1 × AreRoomier es ns

-- The kqueue of this place has room for the knote of the child, and is found for it where it follows the parent.
pub record IsPrepared {T : Type 0} (pid child : ℕ) (watching : HashMap Target (List ℕ) T) (place : ℕ)
    (v : NumberedKqueue)
    : Type 0 where
  pub room : (views : Views) → HasRoomToFollow views (forked pid child) v.kq
  pub found : tracks pid v.kq.kq ≡ true → has_place place (places_of watching (Process child)) ≡ true
  pub own_keys : HaveOwnKeys v.kq.kq.knotes

-- so are those of these places
abbrev pub ArePrepared : {T : Type 0} → ℕ → ℕ → HashMap Target (List ℕ) T → List ℕ
    → List (ℕ × NumberedKqueue) → Type 0
ArePrepared pid child watching places entries =
    (place : ℕ) (v : NumberedKqueue) → has_place place places ≡ true → lookup (nat_eq place) entries ≡ Some v
    → IsPrepared pid child watching place v

-- ---- the fork

-- those of these places have room to follow whom these hints tell of, unless they were shown them in this round
abbrev pub HaveRoom : List Posted → Views → ℕ → List ℕ → List (ℕ × NumberedKqueue) → Type 0
HaveRoom hints views round places entries =
    (place : ℕ) (v : NumberedKqueue) → has_place place places ≡ true → lookup (nat_eq place) entries ≡ Some v
    → (v.shown ≡ round → ⊥) → HasRoomToFollow views hints v.kq

-- its knotes hear of the fork, and then it follows the child
pub record IsFollowing (hints : List Posted) (views : Views) (v w : NumberedKqueue) : Type 0 where
  pub ended : w.ended ≡ v.ended
  pub kq : w.kq.kq ≡ followed v.kq.version hints (notified views hints v.kq.kq)

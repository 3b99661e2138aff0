-- A record is shown to the kqueues that it concerns: those of the processes in which it closes numbers, those that
-- may watch what it has hints for, and where it moves the clock those that may have timers. Each sees it once, since it
-- keeps the round in which it was shown one.
use Rattle.std.specs.Prelude.{◌≡◌, ◌<◌, ◌≤◌, ℕ, Bool, true, false, List, [], ◌∷◌}
use Rattle.std.specs.Prelude.{Option, Some, nat_eq}
use Rattle.std.specs.List.{list_any}
use Rattle.std.specs.Map.{lookup}
use Rattle.std.specs.HashMap.{HashMap}
use Rattle.kq_model.specs.contracts.object.TargetPartialEq.TheImpl as target_equal
use Rattle.kq_model.specs.declared.filter.Filter.{Filter}
use Rattle.kq_model.specs.declared.object.Target.{Target}
use Rattle.kq_model.specs.declared.object.Target.TheVariants.{Own}
use Rattle.kq_model.specs.Clock.{Span, clocked}
use Rattle.kq_model.specs.Close.{Pair, closed, has_pair}
use Rattle.kq_model.specs.Hints.{notified}
use Rattle.kq_model.specs.Knote.{is_timer}
use Rattle.kq_model.specs.Subjects.{HaveSubjects}
use Rattle.kq_model.specs.Targets.{Posted}
use Rattle.kq_model.specs.Views.{Views}
use Rattle.kq_system.specs.Places.{has_place, places_at}
use Rattle.kq_system.specs.SystemState.{NumberedKqueue}

-- ---- what contracts see of the live kqueues

pub record LiveKqueues : Type 0 where
  -- by the places of their births, which rise
  pub entries : List (ℕ × NumberedKqueue)
  -- the place and the process of a birth for which there is room
  pub ready : Option (ℕ × ℕ)

-- this holds of each entry
abbrev pub Each : (ℕ → NumberedKqueue → Type 0) → List (ℕ × NumberedKqueue) → Type 0
Each P [] = Unit {0}
Each P (e ∷ es) = P e.0 e.1 × Each P es

-- the places under a target
abbrev pub places_of : {S : Type 0} → HashMap Target (List ℕ) S → Target → List ℕ
places_of watching target = places_at target_equal.eq-value.it watching target

-- a knote of this filter and target may be one of the kqueue of this place: it stands under the target, unless that is
-- the knote itself, and for a timer under that too
abbrev pub IsFound : {S : Type 0} → ℕ → HashMap Target (List ℕ) S → Filter → Option Target → Type 0
IsFound place watching filter target =
    ((t : Target) → target ≡ Some t → (t ≡ Own → ⊥) → has_place place (places_of watching t) ≡ true)
    × (is_timer filter ≡ true → has_place place (places_of watching Own) ≡ true)

abbrev pub IsListed : {S : Type 0} → ℕ → HashMap Target (List ℕ) S → Filter → ℕ → Option Target
    → Type 0
IsListed place watching filter ident target = IsFound place watching filter target

-- How the live kqueues are found. The indexes may name more than there are.
pub record AreFound {S T : Type 0} (entries : List (ℕ × NumberedKqueue)) (spare : ℕ)
    (prepared : Option (ℕ × ℕ))
    (owned : HashMap ℕ (List ℕ) S) (watching : HashMap Target (List ℕ) T) (round : ℕ) : Type 0 where
  pub by_owner : Each (λ place v. has_place place (places_at nat_eq owned v.kq.owner) ≡ true) entries
  pub by_target : Each (λ place v. HaveSubjects (IsListed place watching) v.kq.kq.knotes) entries
  pub shown : Each (λ place v. v.shown ≤ round) entries
  pub standing : Each (λ place v. v.ended ≡ false) entries
  pub room : (birth : ℕ × ℕ) → prepared ≡ Some birth
      → (0 < spare) × (has_place birth.0 (places_at nat_eq owned birth.1) ≡ true)

-- ---- what it is to be shown a record

-- it ends where its own number was closed; else its knotes of closed numbers are gone, and the others hear the hints
pub record IsTold (pairs : List Pair) (hints : List Posted) (views : Views) (v w : NumberedKqueue) : Type 0 where
  pub ended : w.ended ≡ has_pair v.kq.owner v.number pairs
  pub kq : w.ended ≡ false → w.kq.kq ≡ notified views hints (closed v.kq.owner pairs v.kq.kq)

-- its clock goes on by this span
pub record IsRung (span : Span) (v w : NumberedKqueue) : Type 0 where
  pub ended : w.ended ≡ v.ended
  pub kq : w.kq.kq ≡ clocked (Some span) v.kq.kq

-- where this is what the record does to a kqueue
module _ (round : ℕ) (Told : NumberedKqueue → NumberedKqueue → Type 0) where
  -- the kqueue was shown the record in this round at most once
  pub record IsPassed (v w : NumberedKqueue) : Type 0 where
    pub number : w.number ≡ v.number
    pub owner : w.kq.owner ≡ v.kq.owner
    pub version : w.kq.version ≡ v.kq.version
    pub unseen : (w.shown ≡ round → ⊥) → w ≡ v
    pub already : v.shown ≡ round → w ≡ v
    pub told : (v.shown ≡ round → ⊥) → w.shown ≡ round → Told v w

  -- so were all of them
  abbrev pub ArePassed : List (ℕ × NumberedKqueue) → List (ℕ × NumberedKqueue) → Type 0
  ArePassed [] [] = Unit {0}
  ArePassed [] (n ∷ ns) = ⊥
  ArePassed (e ∷ es) [] = ⊥
  ArePassed (e ∷ es) (n ∷ ns) = (n.0 ≡ e.0) × IsPassed e.1 n.1 × ArePassed es ns

  -- some were passed, and among them all that this asks for
  pub record AreShown (asks : ℕ → Bool) (any : Bool) (old new : List (ℕ × NumberedKqueue)) : Type 0 where
    pub passed : ArePassed old new
    pub seen : (place : ℕ) (w : NumberedKqueue) → asks place ≡ true → lookup (nat_eq place) new ≡ Some w
        → w.shown ≡ round
    -- where none had ended, none has unless `any` says so
    pub calm : any ≡ false → Each (λ place v. v.ended ≡ false) old → Each (λ place v. v.ended ≡ false) new

-- the places under the processes of these pairs
abbrev pub asks_owned : {S : Type 0} → HashMap ℕ (List ℕ) S → List (ℕ × ℕ) → ℕ → Bool
asks_owned owned pairs place = list_any (λ (p : ℕ × ℕ). has_place place (places_at nat_eq owned p.0)) pairs

-- the places under the targets of these hints
abbrev pub asks_watching : {S : Type 0} → HashMap Target (List ℕ) S → List Posted → ℕ → Bool
asks_watching watching hints place =
    list_any (λ (p : Posted). has_place place (places_of watching p.0)) hints

-- Which kqueues go with a key, by their places of birth. An index may name more than do, and never fewer.
use Rattle.std.specs.Prelude.{◌≡◌, ℕ, Bool, true, List, [], Option, Some, None, nat_eq}
use Rattle.std.specs.List.{list_any}
use Rattle.std.specs.HashMap.{HashMap, get}

abbrev pub has_place : ℕ → List ℕ → Bool
has_place place places = list_any (nat_eq place) places

-- none of them is gone
abbrev pub KeepsPlaces : List ℕ → List ℕ → Type 0
KeepsPlaces old new = (place : ℕ) → has_place place old ≡ true → has_place place new ≡ true

abbrev pub or_none : Option (List ℕ) → List ℕ
or_none None = []
or_none (Some places) = places

module _ {K S : Type 0} (same : K → K → Bool) where
  -- the places under a key
  abbrev pub places_at : HashMap K (List ℕ) S → K → List ℕ
  places_at table key = or_none (get same table key)

  -- no place is gone
  pub record Grows (old new : HashMap K (List ℕ) S) : Type 0 where
    pub grows : (key : K) (place : ℕ) → has_place place (places_at old key) ≡ true
        → has_place place (places_at new key) ≡ true

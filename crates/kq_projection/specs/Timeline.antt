-- A value that changes from place to place: what it was before all marks, and from each mark on what the mark says.
use Rattle.std.specs.Prelude.{ℕ, nat_le, List, [], ◌∷◌, Bool, if◌then◌else◌, ◌≤◌, All}
use Rattle.std.specs.List.Sorted.{IsNonDecreasingBy}
use Rattle.kq_projection.specs.declared.history.timeline.Mark.{Mark}

module _ {V : Type 0} where
  -- the value of the last mark at the place or before it; `before` where there is none
  abbrev pub value_at : ℕ → V → List (Mark V) → V
  value_at place before [] = before
  value_at place before (m ∷ ms) = value_at place (if nat_le m.place place then m.value else before) ms

  -- the value behind all marks
  abbrev pub last_value : V → List (Mark V) → V
  last_value before [] = before
  last_value before (m ∷ ms) = last_value m.value ms

  abbrev pub mark : ℕ → V → Mark V
  mark place value = record { place = place; value = value }

  -- a mark at this place, where there is to be one
  abbrev pub marked : Bool → ℕ → V → List (Mark V)
  marked is place value = if is then mark place value ∷ [] else []

  -- no mark is later
  abbrev pub IsUpTo : ℕ → List (Mark V) → Type 0
  IsUpTo place ms = All (λ (m : Mark V). m.place ≤ place) ms

  -- none is earlier than one before it
  abbrev pub AreRising : List (Mark V) → Type 0
  AreRising ms = IsNonDecreasingBy (λ (m : Mark V). m.place) ms

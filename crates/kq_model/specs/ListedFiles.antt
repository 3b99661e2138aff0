-- The list of a file's open descriptions is whole, in the rising order of the places at which they were opened: it has
-- each description that is open on the file, and nothing else. So who is told of a write hears all who can read it, in
-- the order of their birth.
use Rattle.std.specs.Prelude.{◌≡◌, ◌==◌, ◌&&◌, ℕ, nat_lt, Bool, true, Option, Some, None, List, [], ◌∷◌}
use Rattle.std.specs.List.{list_all, list_any}
use Rattle.kq_model.specs.CountedWorld.{IsCountedWorld}
use Rattle.kq_model.specs.Files.{DescriptionState, FileState}
use Rattle.kq_model.specs.Objects.{Objects, counted}
use Rattle.kq_model.specs.Touching.{is_on}
use Rattle.kq_model.specs.World.{World, Planned, Impossible, Possible, carried_out}

-- the list of a file; of one that is not there, the empty one
abbrev pub list_of : Option FileState → List ℕ
list_of None = []
list_of (Some f) = f.descriptions

-- whether the description of a place stands on the list of a file
abbrev pub is_listed : ℕ → Option FileState → Bool
is_listed place f = list_any (λ p. p == place) (list_of f)

-- each place is before all that follow it
abbrev pub rises : List ℕ → Bool
rises [] = true
rises (p ∷ ps) = list_all (λ q. nat_lt p q) ps && rises ps

pub record AreListed (o : Objects counted) : Type 0 where
  -- each description stands on the list of its file
  pub listed : (place : ℕ) (s : DescriptionState) → o.description place ≡ Some s
      → is_listed place (o.file s.file) ≡ true
  -- what stands on the list of a file is a description that is open on it
  pub only : (place number : ℕ) → is_listed place (o.file number) ≡ true → is_on number (o.description place) ≡ true
  pub rising : (number : ℕ) → rises (list_of (o.file number)) ≡ true

-- a record, planned at this place in this world, keeps that
abbrev pub StaysListed : ℕ → World counted → Planned → Type 0
StaysListed place w (Impossible why) = Unit {0}
StaysListed place w (Possible p) = AreListed (carried_out place p w).objects

pub record KeepsLists (place : ℕ) (w : World counted) (planned : Planned) : Type 0 where
  pub keeps : IsCountedWorld place w → AreListed w.objects → StaysListed place w planned

-- The kqueues that a trace makes: by rising place, each with its owner and the sources of what concerns it.
use Rattle.std.specs.Prelude.{◌≡◌, ◌≢◌, ◌<◌, ℕ, List, []}
use Rattle.std.specs.Prelude.{◌∷◌, length, slice_index}
use Rattle.std.specs.Prelude.{slice_index_or}
use Rattle.kq_model.specs.declared.change.Change.{Change}
use Rattle.kq_model.specs.Views.{Views}
use Rattle.kq_projection.specs.declared.history.item.Source.TheVariants.{Kqueue}
use Rattle.kq_projection.specs.declared.history.kqueues.Concerned.{Concerned}
use Rattle.kq_projection.specs.declared.history.kqueues.Kqueues.{Kqueues}
use Rattle.kq_projection.specs.Sources.{Grows, call_sources}

-- the place stands there and nowhere else
pub record IsAlone (place : ℕ) (places : List ℕ) (index : ℕ) : Type 0 where
  pub inside : index < length places
  pub there : slice_index places index ≡ place
  pub alone : (other : ℕ) → other < length places → slice_index places other ≡ place → other ≡ index

-- it stands nowhere
abbrev pub IsAbsent : ℕ → List ℕ → Type 0
IsAbsent place places = (index : ℕ) → index < length places → slice_index places index ≢ place

-- what concerns the kqueue of this place stands where its place does
abbrev pub IsAtPlace : ℕ → Kqueues → Concerned → Type 0
IsAtPlace place k c =
    (index : ℕ) × (index < length k.places.items) × (slice_index k.places.items index ≡ place)
    × (c ≡ slice_index_or k.concerned.items index c)

-- a new kqueue is concerned by its calls alone
pub record IsNew (place owner : ℕ) (c : Concerned) : Type 0 where
  pub owner_is : c.owner ≡ owner
  pub sources : c.sources.set.keys ≡ Kqueue place ∷ []

-- the kqueue of this place is concerned by what these changes name too; the others are as they were
pub record IsNamedAt (place : ℕ) (views : Views) (changes : List Change) (old new : Kqueues) : Type 0 where
  pub length_is : length new.concerned.items ≡ length old.concerned.items
  pub owners : (index : ℕ) (c : Concerned)
      → (slice_index_or new.concerned.items index c).owner ≡ (slice_index_or old.concerned.items index c).owner
  pub named : (index : ℕ) (c : Concerned) → index < length old.places.items
      → slice_index old.places.items index ≡ place
      → Grows (call_sources views (slice_index_or old.concerned.items index c).owner changes)
      (slice_index_or old.concerned.items index c).sources (slice_index_or new.concerned.items index c).sources
  pub others : (index : ℕ) (c : Concerned) → slice_index old.places.items index ≢ place
      → slice_index_or new.concerned.items index c ≡ slice_index_or old.concerned.items index c

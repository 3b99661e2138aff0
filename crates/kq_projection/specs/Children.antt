-- The processes that descend from those that a kqueue names, by what the records say of forks.
use Rattle.std.specs.Prelude.{◌≡◌, ℕ, Bool, true, false, List, filter, Option, Some, None}
use Rattle.std.specs.List.{Contains, flat_map}
use Rattle.kq_model.specs.declared.object.Hint.TheVariants.{Child}
use Rattle.kq_model.specs.declared.object.Target.{Target}
use Rattle.kq_model.specs.declared.object.Target.TheVariants.{Process}
use Rattle.kq_projection.specs.declared.history.item.Item.{Item}
use Rattle.kq_projection.specs.declared.history.item.Source.{Source}
use Rattle.kq_projection.specs.declared.history.item.Source.TheVariants.{Of}
use Rattle.kq_projection.specs.declared.history.item.What.{What}
use Rattle.kq_projection.specs.declared.history.item.What.TheVariants.{Told}
use Rattle.kq_projection.specs.Items.{has_source}
use Rattle.kq_projection.specs.MessageIndex.{comes_from, item_at}
use Rattle.kq_projection.specs.Sources.{target_sources}

abbrev pub of_process : ℕ → Source
of_process pid = Of (Process pid)

-- a record says that the one forked the other
abbrev pub IsForkIn : List Item → ℕ → ℕ → Type 0
IsForkIn items parent child =
    (place : ℕ) × Contains items (record { place = place; what = Told (Process parent) (Child child) })

-- with a process its children are among them
abbrev pub AreClosed : List Item → (Source → Bool) → Type 0
AreClosed items among =
    (parent child : ℕ) → IsForkIn items parent child
    → among (of_process parent) ≡ true → among (of_process child) ≡ true

-- the least sources that have these and the children of their processes
pub record AreWithChildren (items : List Item) (named all : List Source) : Type 0 where
  pub more : (x : Source) → has_source named x ≡ true → has_source all x ≡ true
  pub closed : AreClosed items (has_source all)
  pub least : (among : Source → Bool) → ((x : Source) → has_source named x ≡ true → among x ≡ true)
      → AreClosed items among → (x : Source) → has_source all x ≡ true → among x ≡ true

-- ---- as the code finds them

unfoldable pub is_of_process : Source → Bool
is_of_process (Of (Process pid)) = true
is_of_process _ = false

-- the child of which an item tells
unfoldable pub child_told : What → Option Target
child_told (Told (Process pid) (Child child)) = Some (Process child)
child_told _ = None

abbrev pub child_sources : What → List Source
child_sources w = target_sources (child_told w)

-- of which the items at these places tell
abbrev pub children_at : List Item → List ℕ → List Source
children_at items numbers = flat_map (λ n. child_sources (item_at items n).what) numbers

-- of which those of a source tell
abbrev pub children_of : List Item → Source → List Source
children_of items s = flat_map (λ (i : Item). child_sources i.what) (filter (comes_from s) items)

-- what is picked by what a kqueue's changes name, where children are asked for and where they are not
abbrev pub AreReached : Bool → List Item → List Source → List Source → Type 0
AreReached true items named all = AreWithChildren items named all
AreReached false items named all = all ≡ named

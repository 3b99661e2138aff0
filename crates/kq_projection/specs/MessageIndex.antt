-- Where the items of each source stand in a log.
use Rattle.std.specs.Prelude.{◌≡◌, ℕ, ◌+◌, Bool, List, [], ◌∷◌, ◌++◌, slice_index_or}
use Rattle.std.specs.HashMap.{HashMap}
use Rattle.std.specs.List.{flat_map}
use Rattle.kq_projection.specs.declared.history.item.Item.{Item}
use Rattle.kq_projection.specs.declared.history.item.Source.{Source}
use Rattle.kq_projection.specs.declared.history.item.What.TheVariants.{Closed}
use Rattle.kq_projection.specs.Items.{source_eq, source_of}
use Rattle.kq_projection.specs.PostingLists.{postings_at, posting}

-- where those of a list stand that pass a test; its first stands at `from`
abbrev pub standing : {X : Type 0} → (X → Bool) → ℕ → List X → List ℕ
standing test from [] = []
standing test from (x ∷ xs) = posting (test x) from ++ standing test (from + 1) xs

abbrev pub comes_from : Source → Item → Bool
comes_from s i = source_eq (source_of i.what) s

-- the list of each source has where its items stand
abbrev pub AreIndexed : {S : Type 0} → List Item → HashMap Source (List ℕ) S → Type 0
AreIndexed items postings = (s : Source) → postings_at postings s ≡ standing (comes_from s) 0 items

-- where those of these sources stand, source by source
abbrev pub all_standing : List Item → List Source → List ℕ
all_standing items sources = flat_map (λ s. standing (comes_from s) 0 items) sources

-- the item that stands for none, behind the end
abbrev pub no_item : Item
no_item = record { place = 0; what = Closed 0 0 }

abbrev pub item_at : List Item → ℕ → Item
item_at items number = slice_index_or items number no_item

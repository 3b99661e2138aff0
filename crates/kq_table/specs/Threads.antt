-- Lists of slots, doubly linked in the nodes that stand there. A node is in three lists at most, its threads: the order
-- of attachment, the rows that watch the same target, and the queue.
use Rattle.std.specs.Prelude.{◌≡◌, ℕ, zero, suc, Bool, true, false, not, ◌==◌, ◌||◌, List}
use Rattle.std.specs.Prelude.{[], ◌∷◌, filter, length, Option, Some, None, is_some}
use Rattle.std.specs.Prelude.{if◌then◌else◌}
use Rattle.std.specs.Option.{option_map, is_none}
use Rattle.slab.specs.Slab.{Slab, get, slab_len}
use Rattle.kq_table.specs.declared.node.Ends.{Ends}
use Rattle.kq_table.specs.declared.node.Links.{Links}
use Rattle.kq_table.specs.declared.node.Node.{Node}
use Rattle.kq_table.specs.declared.node.Thread.{Thread}
use Rattle.kq_table.specs.declared.node.Thread.TheVariants.{Order, Watch, Queue}

-- ---- slots

-- it is this slot
abbrev pub is_at : Option ℕ → ℕ → Bool
is_at None slot = false
is_at (Some other) slot = slot == other

abbrev pub is_in : ℕ → List ℕ → Bool
is_in slot [] = false
is_in slot (s ∷ slots) = (slot == s) || is_in slot slots

abbrev pub AreDistinct : List ℕ → Type 0
AreDistinct [] = Unit {0}
AreDistinct (s ∷ slots) = (is_in s slots ≡ false) × AreDistinct slots

-- the slots without this one
abbrev pub without_slot : ℕ → List ℕ → List ℕ
without_slot slot slots = filter (λ s. not (s == slot)) slots

-- the first, or else this one
abbrev pub head_or : Option ℕ → List ℕ → Option ℕ
head_or after [] = after
head_or after (s ∷ slots) = Some s

-- the last, or else this one
abbrev pub last_or : Option ℕ → List ℕ → Option ℕ
last_or before [] = before
last_or before (s ∷ slots) = last_or (Some s) slots

-- ---- a list of them

-- each has the one before it and the one behind it; before the first is this one, and behind the last this one
abbrev pub AreLinked : (ℕ → Option Links) → Option ℕ → List ℕ → Option ℕ → Type 0
AreLinked links before [] after = Unit {0}
AreLinked links before (s ∷ slots) after =
    (links s ≡ Some (record { before = before; after = head_or after slots })) × AreLinked links (Some s) slots after

-- these slots are linked from the first to the last
pub record IsThread (links : ℕ → Option Links) (ends : Ends) (slots : List ℕ) : Type 0 where
  pub linked : AreLinked links None slots None
  pub distinct : AreDistinct slots
  pub first : ends.first ≡ head_or None slots
  pub last : ends.last ≡ last_or None slots

-- these slots are the queue, and no other slot says that it is in it
pub record IsQueue (links : ℕ → Option Links) (ends : Ends) (slots : List ℕ) (waiting : ℕ) : Type 0 where
  pub thread : IsThread links ends slots
  pub whole : (slot : ℕ) → is_some (links slot) ≡ true → is_in slot slots ≡ true
  pub counted : waiting ≡ length slots

abbrev pub after_of : Option Links → Option ℕ
after_of None = None
after_of (Some links) = links.after

-- the slots from this one on, so many at most
abbrev pub walk : (ℕ → Option Links) → ℕ → Option ℕ → List ℕ
walk links zero at = []
walk links (suc more) None = []
walk links (suc more) (Some slot) = slot ∷ walk links more (after_of (links slot))

-- ---- what is changed

-- another one behind a slot, where one is named and linked
abbrev pub with_after : Option ℕ → Option ℕ → (ℕ → Option Links) → ℕ → Option Links
with_after at after links slot =
    if is_at at slot then option_map (λ (l : Links). record l { after = after }) (links slot) else links slot

-- another one before a slot, where one is named and linked
abbrev pub with_before : Option ℕ → Option ℕ → (ℕ → Option Links) → ℕ → Option Links
with_before at before links slot =
    if is_at at slot then option_map (λ (l : Links). record l { before = before }) (links slot) else links slot

-- a slot is followed by another one, and that has it before it
abbrev pub joined : Option ℕ → Option ℕ → (ℕ → Option Links) → ℕ → Option Links
joined before after links = with_before after before (with_after before after links)

abbrev pub joined_ends : Option ℕ → Option ℕ → Ends → Ends
joined_ends before after ends = record {
  first = if is_none before then after else ends.first;
  last = if is_none after then before else ends.last;
}

-- what a slot has, in place of what it had
abbrev pub written : {V : Type 0} → ℕ → Option V → (ℕ → Option V) → ℕ → Option V
written at value values slot = if slot == at then value else values slot

-- another number at a slot that has one
abbrev pub with_birth : ℕ → ℕ → (ℕ → Option ℕ) → ℕ → Option ℕ
with_birth at born births slot = if slot == at then option_map (λ (_ : ℕ). born) (births slot) else births slot

-- a slot is linked behind the last
abbrev pub put_last : Option ℕ → ℕ → (ℕ → Option Links) → ℕ → Option Links
put_last last slot links =
    with_after last (Some slot) (written slot (Some (record { before = last; after = None })) links)

abbrev pub ends_with : ℕ → Ends → Ends
ends_with slot ends = record {
  first = if is_none ends.last then Some slot else ends.first;
  last = Some slot;
}

-- a slot is linked before the first
abbrev pub put_first : Option ℕ → ℕ → (ℕ → Option Links) → ℕ → Option Links
put_first first slot links =
    with_before first (Some slot) (written slot (Some (record { before = None; after = first })) links)

abbrev pub ends_led : ℕ → Ends → Ends
ends_led slot ends = record {
  first = Some slot;
  last = if is_none ends.first then Some slot else ends.last;
}

-- a slot that has these links is passed over
abbrev pub passed_over : Option Links → (ℕ → Option Links) → ℕ → Option Links
passed_over None links = links
passed_over (Some l) links = joined l.before l.after links

abbrev pub ends_past : Option Links → Ends → Ends
ends_past None ends = ends
ends_past (Some l) ends = joined_ends l.before l.after ends

-- they are two threads
abbrev pub differ : Thread → Thread → Bool
differ Order Order = false
differ Watch Watch = false
differ Queue Queue = false
differ thread other = true

-- ---- what the nodes say

module _ {T : Type 0} where
  abbrev pub row_of : Option (Node T) → Option T
  row_of None = None
  row_of (Some node) = Some node.row

  abbrev pub birth_of : Option (Node T) → Option ℕ
  birth_of None = None
  birth_of (Some node) = Some node.born

  abbrev pub links_of : Thread → Option (Node T) → Option Links
  links_of thread None = None
  links_of Order (Some node) = Some node.order
  links_of Watch (Some node) = Some node.watch
  links_of Queue (Some node) = node.queue

  abbrev pub rows_in : Slab (Node T) → ℕ → Option T
  rows_in nodes slot = row_of (get nodes slot)

  abbrev pub births_in : Slab (Node T) → ℕ → Option ℕ
  births_in nodes slot = birth_of (get nodes slot)

  abbrev pub links_in : Thread → Slab (Node T) → ℕ → Option Links
  links_in thread nodes slot = links_of thread (get nodes slot)

  -- the node with these links
  abbrev pub with_links : Thread → Links → Node T → Node T
  with_links Order links node = record node { order = links }
  with_links Watch links node = record node { watch = links }
  with_links Queue links node = record node { queue = Some links }

  -- no more changes than the links of one thread
  pub record SameBut (thread : Thread) (old new : Slab (Node T)) : Type 0 where
    pub rows : rows_in new ≡ rows_in old
    pub births : births_in new ≡ births_in old
    pub links : (other : Thread) → differ thread other ≡ true → links_in other new ≡ links_in other old
    pub len : slab_len new ≡ slab_len old
    pub capacity : new.capacity ≡ old.capacity

  -- no more changes than the births
  pub record SameButBirths (old new : Slab (Node T)) : Type 0 where
    pub rows : rows_in new ≡ rows_in old
    pub links : (thread : Thread) → links_in thread new ≡ links_in thread old
    pub len : slab_len new ≡ slab_len old
    pub capacity : new.capacity ≡ old.capacity

  -- ---- what stands in slots

  abbrev pub before_rows : Option T → List T → List T
  before_rows None rows = rows
  before_rows (Some row) rows = row ∷ rows

  -- the rows that stand in these slots
  abbrev pub rows_at : (ℕ → Option T) → List ℕ → List T
  rows_at rows [] = []
  rows_at rows (s ∷ slots) = before_rows (rows s) (rows_at rows slots)

  -- the rows of a thread that begins at this slot, so many at most
  abbrev pub rows_along : Thread → Slab (Node T) → ℕ → Option ℕ → List T
  rows_along thread nodes most first = rows_at (rows_in nodes) (walk (links_in thread nodes) most first)

-- What a table keeps: its rows at slots, the threads that link them, and where keys and targets are found.
use Rattle.std.specs.Prelude.{◌≡◌, ◌≤◌, ◌+◌, ℕ, Bool, true, false, List, [], ◌∷◌}
use Rattle.std.specs.Prelude.{filter, length, Option, Some, None, is_some}
use Rattle.std.specs.HashMap.{HashMap, get as found, hash_map_len, spare}
use Rattle.slab.specs.Slab.{Slab, slab_len}
use Rattle.kq_table.specs.declared.node.Ends.{Ends}
use Rattle.kq_table.specs.declared.node.Links.{Links}
use Rattle.kq_table.specs.declared.node.Node.{Node}
use Rattle.kq_table.specs.declared.node.Thread.TheVariants.{Order, Watch, Queue}
use Rattle.kq_table.specs.Links.{is_target}
use Rattle.kq_table.specs.Threads.{IsThread, IsQueue, is_in, rows_in, births_in, links_in}

-- how many names fit without memory
abbrev pub names_room : {K V S : Type 0} → HashMap K V S → ℕ
names_room names = hash_map_len names + spare names

-- the ends of a target that has none are nowhere
abbrev pub ends_of : Option Ends → Ends
ends_of None = record { first = None; last = None }
ends_of (Some ends) = ends

-- the births rise along the slots, from this one on, and are below this one
abbrev pub AreBorn : (ℕ → Option ℕ) → ℕ → ℕ → List ℕ → Type 0
AreBorn births low next [] = low ≤ next
AreBorn births low next (s ∷ slots) =
    (born : ℕ) × (births s ≡ Some born) × (low ≤ born) × AreBorn births (born + 1) next slots

module _ {K T G : Type 0} where
  -- as many rows as these numbers say, and room up to `limit`
  pub record HasRoom {S R : Type 0} (nodes : Slab (Node T)) (index : HashMap K ℕ S) (targets : HashMap G Ends R)
      (slots : List ℕ) (limit : ℕ) : Type 0 where
    pub counted : slab_len nodes ≡ length slots
    pub within : slab_len nodes ≤ limit
    pub nodes_fit : limit ≤ nodes.capacity
    pub keys_fit : limit ≤ names_room index
    pub targets_fit : limit ≤ names_room targets

module _ {T G : Type 0} (alike : G → G → Bool) (target_of : T → Option G) where
  -- the row, where there is one, watches this target
  abbrev pub watches : G → Option T → Bool
  watches target None = false
  watches target (Some row) = is_target alike target (target_of row)

  -- those of the slots whose rows watch this target
  abbrev pub watching : G → (ℕ → Option T) → List ℕ → List ℕ
  watching target rows slots = filter (λ s. watches target (rows s)) slots

  -- of each target those of the slots whose rows watch it are linked in their order
  abbrev pub AreWatched : {R : Type 0} → (ℕ → Option T) → (ℕ → Option Links) → HashMap G Ends R
      → List ℕ → Type 0
  AreWatched rows links targets slots =
      (target : G) → IsThread links (ends_of (found alike targets target)) (watching target rows slots)

  -- the row at this slot watches this target, and none before it does
  pub record IsLeading (rows : ℕ → Option T) (links : ℕ → Option Links) (target : G) (slot : ℕ) : Type 0 where
    pub row : T
    pub here : rows slot ≡ Some row
    pub is : is_target alike target (target_of row) ≡ true
    pub after : Option ℕ
    pub first : links slot ≡ Some (record { before = None; after = after })

  -- the row at this slot watches this target, and no other is linked with it
  pub record IsLone (rows : ℕ → Option T) (links : ℕ → Option Links) (target : G) (slot : ℕ)
      (row : T) : Type 0 where
    pub here : rows slot ≡ Some row
    pub is : is_target alike target (target_of row) ≡ true
    pub linked : links slot ≡ Some (record { before = None; after = None })

  -- of each target the slot with such a row is the first
  abbrev pub AreLed : {R : Type 0} → (ℕ → Option T) → (ℕ → Option Links) → HashMap G Ends R → Type 0
  AreLed rows links targets = (target : G) (slot : ℕ) → IsLeading rows links target slot
      → Some slot ≡ (ends_of (found alike targets target)).first

module _ {K T : Type 0} (same : K → K → Bool) (key_of : T → K) where
  -- it is the row of this key
  abbrev pub is_key_of : K → Option T → Bool
  is_key_of key None = false
  is_key_of key (Some row) = same key (key_of row)

  -- the row of this key stands at this slot
  pub record StandsAt (rows : ℕ → Option T) (key : K) (slot : ℕ) : Type 0 where
    pub row : T
    pub here : rows slot ≡ Some row
    pub is : same key (key_of row) ≡ true

  -- no row is of this key
  abbrev pub HasNoRow : (ℕ → Option T) → K → Type 0
  HasNoRow rows key = (slot : ℕ) (row : T) → rows slot ≡ Some row → same key (key_of row) ≡ true → ⊥

  -- Each row is found where the index says. Of keys that have no row it may say anything, so taking a row out leaves it
  -- as it is.
  abbrev pub IsIndexed : {S : Type 0} → (ℕ → Option T) → HashMap K ℕ S → Type 0
  IsIndexed rows index = (slot : ℕ) (row : T) → rows slot ≡ Some row
      → found same index (key_of row) ≡ Some slot

  -- in no two of the slots stand rows of one key
  abbrev pub AreApart : (ℕ → Option T) → List ℕ → Type 0
  AreApart rows slots = (a b : ℕ) (r s : T) → is_in a slots ≡ true → is_in b slots ≡ true
      → rows a ≡ Some r → rows b ≡ Some s → same (key_of r) (key_of s) ≡ true → a ≡ b

module _ {K T G : Type 0} (same : K → K → Bool) (alike : G → G → Bool) (key_of : T → K)
    (target_of : T → Option G) where
  -- Of the slots each is found by its key, and linked with those that watch the same target.
  pub record IsEntered {S R : Type 0} (rows : ℕ → Option T) (links : ℕ → Option Links)
      (index : HashMap K ℕ S) (targets : HashMap G Ends R) (slots : List ℕ) : Type 0 where
    pub indexed : (slot : ℕ) (row : T) → is_in slot slots ≡ true → rows slot ≡ Some row
        → found same index (key_of row) ≡ Some slot
    pub watched : AreWatched alike target_of rows links targets slots

  -- what a table keeps
  pub record IsKept {S R : Type 0} (nodes : Slab (Node T)) (index : HashMap K ℕ S) (targets : HashMap G Ends R)
      (order queue : Ends) (waiting limit births : ℕ) : Type 0 where
    -- the slots in the order of attachment
    pub slots : List ℕ
    -- the slots whose keys are in the queue, from its front
    pub waits : List ℕ
    pub ordered : IsThread (links_in Order nodes) order slots
    pub whole : (slot : ℕ) → is_some (rows_in nodes slot) ≡ true → is_in slot slots ≡ true
    pub entered : IsEntered (rows_in nodes) (links_in Watch nodes) index targets slots
    pub queued : IsQueue (links_in Queue nodes) queue waits waiting
    pub born : AreBorn (births_in nodes) 0 births slots
    pub room : HasRoom nodes index targets slots limit

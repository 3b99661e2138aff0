-- Rows in order, told apart by their keys, and the queue of those that wait. `same` tells whether two keys are one,
-- and `key_of` gives a row's key.
use Rattle.std.specs.Prelude.{◌≡◌, ℕ, Bool, true, false, not, List, [], ◌∷◌, ◌++◌}
use Rattle.std.specs.Prelude.{map, filter, Option, Some, None, slice_get}
use Rattle.std.specs.Prelude.{if◌then◌else◌, is_some}
use Rattle.std.specs.List.{list_any}

-- what contracts see of a table
pub record Tabled (K T : Type 0) : Type 0 where
  -- in the order in which they were attached
  pub rows : List T
  -- the keys of those that wait, the next one first
  pub queue : List K
  -- how many more rows fit
  pub room : ℕ

module _ {K T : Type 0} (same : K → K → Bool) (key_of : T → K) where
  -- the row of this key
  unfoldable pub find_row : K → List T → Option T
  find_row key [] = None
  find_row key (row ∷ rows) = if same key (key_of row) then Some row else find_row key rows

  -- the row behind that of this key
  unfoldable pub row_after : K → List T → Option T
  row_after key [] = None
  row_after key (row ∷ rows) = if same key (key_of row) then slice_get rows 0 else row_after key rows

  -- the rows behind that of this key
  unfoldable pub rows_behind : K → List T → List T
  rows_behind key [] = []
  rows_behind key (row ∷ rows) = if same key (key_of row) then rows else rows_behind key rows

  -- the rows with this one in the place of the one of its key
  abbrev pub with_row : T → List T → List T
  with_row row rows = map (λ r. if same (key_of row) (key_of r) then row else r) rows

  -- the rows without the one of this key
  abbrev pub without_row : K → List T → List T
  without_row key rows = filter (λ r. not (same key (key_of r))) rows

  -- the row is of one of these keys
  abbrev pub is_among : List K → T → Bool
  is_among keys row = list_any (same (key_of row)) keys

  -- no two rows have one key
  abbrev pub HaveOwnKeys : List T → Type 0
  HaveOwnKeys [] = Unit {0}
  HaveOwnKeys (row ∷ rows) = (find_row (key_of row) rows ≡ None) × HaveOwnKeys rows

-- ---- the queue

-- the key at the front goes to the back
unfoldable pub turned : {K : Type 0} → List K → List K
turned [] = []
turned (key ∷ queue) = queue ++ key ∷ []

module _ {K : Type 0} (same : K → K → Bool) where
  -- the key is in the queue
  abbrev pub waits_in : K → List K → Bool
  waits_in key queue = list_any (same key) queue

  -- the key is in the queue, where it was not at the back
  abbrev pub enqueued : K → List K → List K
  enqueued key queue = if waits_in key queue then queue else queue ++ key ∷ []

  -- the queue without this key
  abbrev pub without_waiting : K → List K → List K
  without_waiting key queue = filter (λ other. not (same key other)) queue

  -- the queue with this key at its front, where it is in it
  abbrev pub with_first : K → List K → List K
  with_first key queue = if waits_in key queue then key ∷ without_waiting key queue else queue

  -- the key behind this one; none where this is the last, or not there
  unfoldable pub key_behind : K → List K → Option K
  key_behind key [] = None
  key_behind key (other ∷ queue) = if same key other then slice_get queue 0 else key_behind key queue

  -- no key stands twice in the queue
  abbrev pub AreOnce : List K → Type 0
  AreOnce [] = Unit {0}
  AreOnce (key ∷ queue) = (waits_in key queue ≡ false) × AreOnce queue

module _ {K T : Type 0} (same : K → K → Bool) (key_of : T → K) where
  -- the queue after this key was put in, which only a key that has a row can be
  abbrev pub put_in : K → List T → List K → List K
  put_in key rows queue = if is_some (find_row same key_of key rows) then enqueued same key queue else queue

  -- each key in the queue has a row
  abbrev pub HaveRows : List K → List T → Type 0
  HaveRows queue rows = (key : K) → waits_in same key queue ≡ true
      → is_some (find_row same key_of key rows) ≡ true

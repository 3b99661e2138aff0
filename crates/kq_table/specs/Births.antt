-- The births of the rows of given keys: what `put_in_order` sorts.
use Rattle.std.specs.Prelude.{◌≡◌, ◌≤◌, ◌+◌, ℕ, Bool, true, List, [], ◌∷◌, Option, Some, None}
use Rattle.std.specs.List.{Contains}
use Rattle.kq_table.specs.declared.numbered.Birth.{Birth}
use Rattle.kq_table.specs.Rows.{is_among}

-- each was born after the one before it, and the first no earlier than this
abbrev pub AreRising : ℕ → List Birth → Type 0
AreRising low [] = Unit {0}
AreRising low (b ∷ births) = (low ≤ b.born) × AreRising (b.born + 1) births

module _ {K T : Type 0} (key_of : T → K) where
  abbrev pub before_keys : Option T → List K → List K
  before_keys None keys = keys
  before_keys (Some row) keys = key_of row ∷ keys

  -- the keys of the rows that stand there
  abbrev pub keys_born : (ℕ → Option T) → List Birth → List K
  keys_born rows [] = []
  keys_born rows (b ∷ births) = before_keys (rows b.slot) (keys_born rows births)

module _ {K T : Type 0} (same : K → K → Bool) (key_of : T → K) (rows : ℕ → Option T)
    (births : ℕ → Option ℕ) where
  -- a row of one of these keys stands there, and was born so
  pub record IsBirthOf (keys : List K) (birth : Birth) : Type 0 where
    pub row : T
    pub here : rows birth.slot ≡ Some row
    pub born : births birth.slot ≡ Some birth.born
    pub among : is_among same key_of keys row ≡ true

  -- these are the births of the rows of these keys
  pub record AreBirthsOf (keys : List K) (list : List Birth) : Type 0 where
    pub taken : (birth : Birth) → Contains list birth → IsBirthOf keys birth
    pub whole : (birth : Birth) → IsBirthOf keys birth → (b : Birth) × Contains list b × (b.born ≡ birth.born)

-- What a knote has heard since it was last reset: the list of it all. What is asked of it may be kept in other ways,
-- too (kqueue(2): events that trigger a filter more than once come as one kevent, with their number or the union of
-- their notes).
use Rattle.std.specs.Prelude.{ℕ, Bool, true, false, List, []}
use Rattle.std.specs.Prelude.{◌∷◌, ◌++◌, filter, length}
use Rattle.std.specs.Prelude.{min}
use Rattle.std.specs.List.{fold}
use Rattle.std.specs.Int.RustNames.{bit_or}
use Rattle.kq_model.specs.declared.object.Hint.{Hint}
use Rattle.kq_model.specs.declared.object.Hint.TheVariants.{Readable, Writable, Note, Delivered, Child}

-- a hint for the knote's target, or an expiration of its timer
pub data Occurrence : Type 0 where
  Told : Hint → Occurrence
  Expired : Occurrence

-- the notes of one occurrence
unfoldable pub notes_of : Occurrence → ℕ
notes_of (Told (Note bits)) = bits
notes_of (Told Readable) = 0
notes_of (Told Writable) = 0
notes_of (Told Delivered) = 0
notes_of (Told (Child pid)) = 0
notes_of Expired = 0

-- what is counted: SIGNAL gives the number of deliveries, and TIMER that of expirations (kqueue(2))
abbrev pub is_counted : Occurrence → Bool
is_counted (Told Delivered) = true
is_counted (Told Readable) = false
is_counted (Told Writable) = false
is_counted (Told (Note bits)) = false
is_counted (Told (Child pid)) = false
is_counted Expired = true

-- how often something is counted at most: 2^63 - 1, the greatest data of a kevent
abbrev pub most_counted : ℕ
most_counted = 9223372036854775807

-- a way to keep what was heard
pub record Hearing (S : Type 0) : Type 0 where
  -- nothing was heard
  pub empty : S
  -- one occurrence more
  pub heard : Occurrence → S → S
  -- how many of what is counted, up to the most
  pub count : S → ℕ
  -- the union of their notes
  pub notes : S → ℕ
  -- nothing was heard
  pub is_empty : S → Bool

-- ---- as a list, the latest last

abbrev pub union : List Occurrence → ℕ
union xs = fold (λ bits x. bit_or bits (notes_of x)) 0 xs

-- how many of them are counted
abbrev pub counted_in : List Occurrence → ℕ
counted_in xs = length (filter is_counted xs)

abbrev pub is_none_of : List Occurrence → Bool
is_none_of [] = true
is_none_of (x ∷ xs) = false

abbrev pub listed : Hearing (List Occurrence)
listed = record {
  empty = [];
  heard = λ x xs. xs ++ x ∷ [];
  count = λ xs. min (counted_in xs) most_counted;
  notes = union;
  is_empty = is_none_of;
}

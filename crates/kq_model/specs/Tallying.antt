-- What a knote heard, kept as a tally, which serves every filter as the list of it all does.
use Rattle.std.specs.Prelude.{ℕ, ◌+◌, ◌==◌, Bool, true, false, not, ◌&&◌, ◌||◌, min, if◌then◌else◌}
use Rattle.std.specs.Int.RustNames.{bit_or}
use Rattle.kq_model.specs.declared.object.Hint.TheVariants.{Readable, Writable, Note, Delivered, Child}
use Rattle.kq_model.specs.Hearing.{Expired, Hearing, Occurrence, Told, is_counted, most_counted, notes_of}

-- What is not counted and is kept as heard: a note and a child. READ and WRITE alone hear Readable and Writable, and
-- what they return is what a look sees.
abbrev pub is_telling : Occurrence → Bool
is_telling (Told Delivered) = false
is_telling (Told Readable) = false
is_telling (Told Writable) = false
is_telling (Told (Note bits)) = true
is_telling (Told (Child pid)) = true
is_telling Expired = false

pub record Tally : Type 0 where
  pub count : ℕ
  pub notes : ℕ
  -- a note or a child was heard
  pub told : Bool

abbrev pub tallying : Hearing Tally
tallying = record {
  empty = record { count = 0; notes = 0; told = false };
  heard = λ x t. record {
    count = if is_counted x then min (t.count + 1) most_counted else t.count;
    notes = bit_or t.notes (notes_of x);
    told = is_telling x || t.told;
  };
  count = λ t. min t.count most_counted;
  notes = λ t. t.notes;
  is_empty = λ t. t.count == 0 && not t.told;
}

-- Files and open file descriptions: their records and the quantities of a list of them. Sizes and
-- offsets are bytes.
-- Source: open(2), lseek(2), ftruncate(2): the offset is that of the description, which duplicates of a
-- descriptor share; the size is that of the file.
use Rattle.std.specs.Prelude.{ℕ, ◌+◌, ◌==◌, max, ℤ, pos, int_lt, Bool, true, false, not, ◌||◌}
use Rattle.std.specs.Prelude.{List, [], ◌∷◌, ◌++◌}
use Rattle.std.specs.Prelude.{Option, Some, None}
use Rattle.std.specs.List.{filter}
use Rattle.kq_model.specs.declared.doing.DescriptionRecord.{DescriptionRecord}
use Rattle.kq_model.specs.declared.doing.DescriptionRecord.TheVariants as description
use Rattle.kq_model.specs.declared.doing.FileRecord.{FileRecord}
use Rattle.kq_model.specs.declared.doing.FileRecord.TheVariants as file
use Rattle.kq_model.specs.declared.mode.Mode.{Mode}
use Rattle.kq_model.specs.declared.mode.Mode.TheVariants as mode
use Rattle.kq_model.specs.Accounts.{plus, less, instead, balance, latest, once}

-- ---- open file descriptions

pub record DescriptionState : Type 0 where
  -- the number of its file
  pub file : ℕ
  pub mode : Mode
  pub offset : ℕ
  -- descriptors that name it
  pub holders : ℤ

abbrev pub file_of : DescriptionRecord → Option ℕ
file_of (description.Opened file mode) = Some file
file_of _ = None

abbrev pub mode_of : DescriptionRecord → Option Mode
mode_of (description.Opened file mode) = Some mode
mode_of _ = None

-- the offset after a record: that of the last seek, or 0, and all that was read and written after it
abbrev pub moved : DescriptionRecord → ℕ → ℕ
moved (description.Opened file mode) offset = 0
moved (description.Moved bytes) offset = offset + bytes
moved (description.Sought to) offset = to
moved _ offset = offset

abbrev pub offset_after : List DescriptionRecord → ℕ
offset_after [] = 0
offset_after (r ∷ rs) = moved r (offset_after rs)

abbrev pub holds : DescriptionRecord → Option ℕ
holds (description.Opened file mode) = Some 1
holds description.Held = Some 1
holds _ = None

abbrev pub releases : DescriptionRecord → Option ℕ
releases description.Released = Some 1
releases _ = None

unfoldable pub description_state : List DescriptionRecord → DescriptionState
description_state rs = record {
  file = latest 0 file_of rs;
  mode = latest mode.Read mode_of rs;
  offset = offset_after rs;
  holders = balance holds releases rs;
}

-- the quantities after one more record
unfoldable pub description_after : DescriptionRecord → DescriptionState → DescriptionState
description_after r s = record {
  file = instead s.file (file_of r);
  mode = instead s.mode (mode_of r);
  offset = moved r s.offset;
  holders = less (plus s.holders (holds r)) (releases r);
}

abbrev pub no_description : DescriptionState
no_description = record { file = 0; mode = mode.Read; offset = 0; holders = pos 0 }

abbrev pub is_description_held : DescriptionState → Bool
is_description_held s = int_lt (pos 0) s.holders

unfoldable pub may_read : Mode → Bool
may_read mode.Write = false
may_read _ = true

unfoldable pub may_write : Mode → Bool
may_write mode.Read = false
may_write _ = true

-- ---- files

pub record FileState : Type 0 where
  pub size : ℕ
  pub deleted : Bool
  -- the places of its open descriptions, in the order in which they were opened; since the places of
  -- records rise, that is the rising order
  pub descriptions : List ℕ

-- the size after a record: the greatest of the last size that was set and the ends of later writes
abbrev pub grown : FileRecord → ℕ → ℕ
grown (file.Made size) old = size
grown (file.Sized size) old = size
grown (file.Reached end) old = max old end
grown _ old = old

abbrev pub size_after : List FileRecord → ℕ
size_after [] = 0
size_after (r ∷ rs) = grown r (size_after rs)

abbrev pub deletes : FileRecord → Bool
deletes file.Deleted = true
deletes _ = false

abbrev pub opened : FileRecord → List ℕ → List ℕ
opened (file.Opened description) open_ones = open_ones ++ description ∷ []
opened (file.Left description) open_ones = filter (λ p. not (p == description)) open_ones
opened _ open_ones = open_ones

abbrev pub opened_after : List FileRecord → List ℕ
opened_after [] = []
opened_after (r ∷ rs) = opened r (opened_after rs)

unfoldable pub file_state : List FileRecord → FileState
file_state rs = record {
  size = size_after rs;
  deleted = once deletes rs;
  descriptions = opened_after rs;
}

-- the quantities after one more record
unfoldable pub file_after : FileRecord → FileState → FileState
file_after r s = record {
  size = grown r s.size;
  deleted = deletes r || s.deleted;
  descriptions = opened r s.descriptions;
}

abbrev pub no_file : FileState
no_file = record { size = 0; deleted = false; descriptions = [] }

-- A change in a record: an object with ident, filter and flags, and any of fflags, data and udata; each of
-- these three is 0 where it is missing.
use Rattle.std.specs.Prelude.{ℕ, ◌+◌, ◌==◌, ℤ, pos, Bool, true, false, ◌&&◌, List, []}
use Rattle.std.specs.Prelude.{◌∷◌, codes, Option, Some, None}
use Rattle.std.specs.Prelude.{option_and_then, if◌then◌else◌}
use Rattle.std.specs.Option.{is_some}
use Rattle.std.specs.Int.RustNames.{bit_or}
use Rattle.bitflags.specs.Sets.{find_name}
use Rattle.serde_json.specs.Data.{Data, array, Items, no_items, item}
use Rattle.serde_json.specs.Find.{get, as_str}
use Rattle.kq_model.specs.declared.change.Change.{Change}
use Rattle.kq_model.specs.declared.filter.Filter.{Filter}
use Rattle.kq_model.specs.FlagNames.{flag_table}
use Rattle.kq_model.specs.Members.{has_member, width, is_whole, u64_in, u32_in, i64_in, required, optional, or_else}
use Rattle.kq_model.specs.Names.{filter_named}

-- ---- filter and flags, by name

unfoldable pub filter_in : Data → Option Filter
filter_in d = option_and_then filter_named (as_str d)

unfoldable pub flag_in : Data → Option ℕ
flag_in d = option_and_then (find_name flag_table) (as_str d)

-- the flags named by a list, added to those before
unfoldable pub flags_among : ℕ → Items → Option ℕ
flags_among flags no_items = Some flags
flags_among flags (item d ds) = option_and_then (λ flag. flags_among (bit_or flags flag) ds) (flag_in d)

unfoldable pub flags_in : Data → Option ℕ
flags_in (array ds) = flags_among 0 ds
flags_in _ = None

-- ---- the change

-- the members that may be missing, as far as they are there
unfoldable pub extra_width : Data → ℕ
extra_width d =
    (if has_member d (codes "fflags") then 1 else 0) + (if has_member d (codes "data") then 1 else 0)
    + (if has_member d (codes "udata") then 1 else 0)

-- every member is known and of its kind
unfoldable pub is_change : Data → Bool
is_change d =
    required is_whole (get (codes "ident") d)
    && required (λ v. is_some (filter_in v)) (get (codes "filter") d)
    && required (λ v. is_some (flags_in v)) (get (codes "flags") d)
    && optional is_whole (get (codes "fflags") d)
    && optional is_whole (get (codes "data") d)
    && optional is_whole (get (codes "udata") d)
    && (width d == 3 + extra_width d)

-- the change with these parts, where all are there
unfoldable pub change_with : Option ℕ → Option Filter → Option ℕ → Option ℕ → Option ℤ → Option ℕ
    → Option Change
change_with (Some ident) (Some filter) (Some flags) (Some fflags) (Some datum) (Some udata) =
    Some (record {
      ident = ident;
      filter = filter;
      flags = record { 0 = flags };
      fflags = fflags;
      datum = datum;
      udata = udata;
    })
change_with _ _ _ _ _ _ = None

-- the change, where its numbers are in range
unfoldable pub change_of : Data → Option Change
change_of d = change_with
    (option_and_then u64_in (get (codes "ident") d))
    (option_and_then filter_in (get (codes "filter") d))
    (option_and_then flags_in (get (codes "flags") d))
    (or_else 0 u32_in (get (codes "fflags") d))
    (or_else (pos 0) i64_in (get (codes "data") d))
    (or_else 0 u64_in (get (codes "udata") d))

-- ---- a list of changes

unfoldable pub are_changes : Items → Bool
are_changes no_items = true
are_changes (item d ds) = is_change d && are_changes ds

unfoldable pub is_change_list : Data → Bool
is_change_list (array ds) = are_changes ds
is_change_list _ = false

unfoldable pub prepended : Option Change → Option (List Change) → Option (List Change)
prepended (Some c) (Some cs) = Some (c ∷ cs)
prepended _ _ = None

unfoldable pub changes_of : Items → Option (List Change)
changes_of no_items = Some []
changes_of (item d ds) = prepended (change_of d) (changes_of ds)

unfoldable pub change_list : Data → Option (List Change)
change_list (array ds) = changes_of ds
change_list _ = None

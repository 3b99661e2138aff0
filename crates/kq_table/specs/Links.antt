-- Which rows watch which targets. `alike` tells whether two targets are one, `key_of` gives a row's key and
-- `target_of` what it watches, if anything that others watch too.
use Rattle.std.specs.Prelude.{Bool, false, List, map, filter, Option, Some, None, slice_get}
use Rattle.kq_table.specs.Rows.{find_row, rows_behind}

module _ {G : Type 0} (alike : G → G → Bool) where
  -- it is this target
  abbrev pub is_target : G → Option G → Bool
  is_target target None = false
  is_target target (Some other) = alike target other

module _ {K T G : Type 0} (alike : G → G → Bool) (key_of : T → K) (target_of : T → Option G) where
  -- the keys of the rows that watch this target, in their order
  abbrev pub keys_watching : G → List T → List K
  keys_watching target rows = map key_of (filter (λ r. is_target alike target (target_of r)) rows)

  -- the first key among these rows that watches this target
  abbrev pub first_watching : Option G → List T → Option K
  first_watching None rows = None
  first_watching (Some target) rows = slice_get (keys_watching target rows) 0

  -- the first key among these rows that watches what this row does
  abbrev pub first_alike : Option T → List T → Option K
  first_alike None rows = None
  first_alike (Some row) rows = first_watching (target_of row) rows

  -- the key that watches the same target next behind this one; none where this one has no row or no target, or is the
  -- last of it
  abbrev pub next_watching : (K → K → Bool) → K → List T → Option K
  next_watching same key rows = first_alike (find_row same key_of key rows) (rows_behind same key_of key rows)

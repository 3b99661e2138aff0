-- The tests of a change, in groups.
use Rattle.std.specs.Prelude.{◌+◌, ◌==◌, Bool, ◌&&◌, codes}
use Rattle.std.specs.Option.{is_some}
use Rattle.serde_json.specs.Data.{Data}
use Rattle.serde_json.specs.Find.{get}
use Rattle.kq_model.specs.ChangeText.{extra_width, filter_in, flags_in}
use Rattle.kq_model.specs.Members.{is_whole, optional, required, width}

abbrev pub names_filter : Data → Bool
names_filter d = is_some (filter_in d)

abbrev pub names_flags : Data → Bool
names_flags d = is_some (flags_in d)

unfoldable pub has_required : Data → Bool
has_required d =
    required is_whole (get (codes "ident") d)
    && required names_filter (get (codes "filter") d) && required names_flags (get (codes "flags") d)

unfoldable pub has_extras : Data → Bool
has_extras d =
    optional is_whole (get (codes "fflags") d)
    && optional is_whole (get (codes "data") d) && optional is_whole (get (codes "udata") d)

unfoldable pub has_no_others : Data → Bool
has_no_others d = width d == 3 + extra_width d

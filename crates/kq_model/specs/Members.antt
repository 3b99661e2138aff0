-- The members of a record: which are there, of which kind, and whether a whole number is in its type's
-- range. A member that is missing or of the wrong kind is the fault Field, a whole number out of range
-- the fault Range, and Field anywhere in a record comes before Range (this project's choice).
use Rattle.std.specs.Prelude.{ℕ, ◌+◌, ◌^◌, ◌==◌, ℤ, pos, Bool, true, false, ◌&&◌, List}
use Rattle.std.specs.Prelude.{length, nat_lt, int_lt, Option}
use Rattle.std.specs.Prelude.{Some, None, option_and_then, Result, Ok, Err, if◌then◌else◌}
use Rattle.std.specs.List.{list_all}
use Rattle.std.specs.Option.{is_some}
use Rattle.serde_json.specs.Data.{unsigned, negative, Data, null, boolean, number, string, array, object, Members}
use Rattle.serde_json.specs.Data.{no_members, member}
use Rattle.serde_json.specs.Find.{get}
use Rattle.kq_model.specs.declared.line_fault.LineFault.{LineFault}
use Rattle.kq_model.specs.declared.line_fault.LineFault.TheVariants.{Field, Range}

unfoldable pub member_count : Members → ℕ
member_count no_members = 0
member_count (member k d ms) = member_count ms + 1

-- how many members an object has; anything else has none
unfoldable pub width : Data → ℕ
width null = 0
width (boolean b) = 0
width (number n) = 0
width (string s) = 0
width (array ds) = 0
width (object ms) = member_count ms

abbrev pub has_member : Data → List ℕ → Bool
has_member d name = is_some (get name d)

-- an object with each of these members, and no further one
unfoldable pub has_just : List (List ℕ) → Data → Bool
has_just names d = list_all (has_member d) names && (width d == length names)

-- a whole number, as serde_json sees it: in 64 bits, with a sign or without
unfoldable pub is_whole : Data → Bool
is_whole (number (unsigned n)) = true
is_whole (number (negative z)) = true
is_whole _ = false

unfoldable pub u64_in : Data → Option ℕ
u64_in (number (unsigned n)) = Some n
u64_in _ = None

unfoldable pub u32_in : Data → Option ℕ
u32_in (number (unsigned n)) = if nat_lt n (2 ^ 32) then Some n else None
u32_in _ = None

unfoldable pub i64_in : Data → Option ℤ
i64_in (number (unsigned n)) = if nat_lt n (2 ^ 63) then Some (pos n) else None
i64_in (number (negative z)) = Some z
i64_in _ = None

unfoldable pub from_zero : ℤ → Option ℤ
from_zero z = if int_lt z (pos 0) then None else Some z

-- a moment of the clock, in ns after its start
unfoldable pub moment_in : Data → Option ℤ
moment_in d = option_and_then from_zero (i64_in d)

-- a test of a member that has to be there
unfoldable pub required : (Data → Bool) → Option Data → Bool
required test None = false
required test (Some d) = test d

-- a test of a member that may be missing
unfoldable pub optional : (Data → Bool) → Option Data → Bool
optional test None = true
optional test (Some d) = test d

-- the value of a member that may be missing
unfoldable pub or_else : {A : Type 0} → A → (Data → Option A) → Option Data → Option A
or_else missing value None = Some missing
or_else missing value (Some d) = value d

-- what is read, by its shape and by its value where that is in range
unfoldable pub shaped : {A : Type 0} → Bool → Option A → Result A LineFault
shaped false value = Err Field
shaped true None = Err Range
shaped true (Some x) = Ok x

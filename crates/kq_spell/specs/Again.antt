-- What is said of reading the canonical text of a trace again.
use Rattle.std.specs.Prelude.{◌≡◌, ℕ, int_lt, false, true, ◌^◌, ◌<◌, ◌≤◌, ℤ, pos}
use Rattle.std.specs.Prelude.{negsuc, List, [], ◌∷◌, length}
use Rattle.std.specs.Int.RustNames.{bit_and}
use Rattle.bitflags.specs.Sets.{known_bits}
use Rattle.serde_json.specs.Written.{compact_text}
use Rattle.kq_model.specs.declared.change.Change.{Change}
use Rattle.kq_model.specs.declared.event.Event.{Event}
use Rattle.kq_model.specs.declared.event.Event.TheVariants.{Clock, Kevent}
use Rattle.kq_model.specs.FlagNames.{flag_table}
use Rattle.kq_model.specs.Limits.{most_line_bytes, most_records}
use Rattle.kq_model.specs.Spelling.{Changes, Integer, Name, Number, Truth, Value, members_of, record_data}
use Rattle.kq_spell.specs.Texts.{is_word}

-- ---- what a trace has to keep to be read again

-- each bit of its flags has a name
abbrev pub HasNamedFlags : Change → Type 0
HasNamedFlags c = bit_and c.flags.0 (known_bits flag_table) ≡ c.flags.0

abbrev pub HaveNamedFlags : List Change → Type 0
HaveNamedFlags [] = Unit {0}
HaveNamedFlags (c ∷ cs) = HasNamedFlags c × HaveNamedFlags cs

abbrev pub NamesItsFlags : Event → Type 0
NamesItsFlags (Kevent pid fd changes room) = HaveNamedFlags changes
NamesItsFlags _ = Unit {0}

-- no moment of the clock lies before its start
abbrev pub IsFromTheStart : Event → Type 0
IsFromTheStart (Clock ns) = int_lt ns (pos 0) ≡ false
IsFromTheStart _ = Unit {0}

-- no flag without a name, no moment before the start, and a line that is not too long
abbrev pub IsPlain : Event → Type 0
IsPlain e = NamesItsFlags e × IsFromTheStart e × (length (compact_text (record_data e)) ≤ most_line_bytes)

abbrev pub ArePlain : List Event → Type 0
ArePlain [] = Unit {0}
ArePlain (e ∷ es) = IsPlain e × ArePlain es

-- no flag without a name, no line that is too long, and no record too many
pub record CanBeReadAgain (events : List Event) : Type 0 where
  pub count : length events ≤ most_records
  pub plain : ArePlain events

-- ---- what every event of a program has: its numbers are in the ranges of their types

abbrev pub FitsInteger : ℤ → Type 0
FitsInteger (pos n) = n < 2 ^ 63
FitsInteger (negsuc n) = n < 2 ^ 63

pub record FitsChange (c : Change) : Type 0 where
  pub ident : c.ident < 2 ^ 64
  pub fflags : c.fflags < 2 ^ 32
  pub datum : FitsInteger c.datum
  pub udata : c.udata < 2 ^ 64

abbrev pub FitsChanges : List Change → Type 0
FitsChanges [] = Unit {0}
FitsChanges (c ∷ cs) = FitsChange c × FitsChanges cs

abbrev pub FitsValue : Value → Type 0
FitsValue (Number n) = n < 2 ^ 32
FitsValue (Integer z) = FitsInteger z
FitsValue (Truth b) = Unit {0}
FitsValue (Name name) = is_word name ≡ true
FitsValue (Changes changes) = FitsChanges changes

-- the names are words, and the numbers in range
abbrev pub FitMembers : List (List ℕ × Value) → Type 0
FitMembers [] = Unit {0}
FitMembers (m ∷ ms) = (is_word m.0 ≡ true) × FitsValue m.1 × FitMembers ms

unfoldable pub FitsRecord : Event → Type 0
FitsRecord e = FitMembers (members_of e)

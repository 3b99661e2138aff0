-- What a typed look-up says of a member, in the words in which the reading of a record asks for it.
use Rattle.std.specs.Prelude.{◌≡◌, ℕ, ℤ, pos, Bool, true, List, Some, option_and_then}
use Rattle.std.specs.Option.{is_some}
use Rattle.serde_json.specs.Data.{Members, object, string}
use Rattle.serde_json.specs.Find.{as_bool, get_member}
use Rattle.kq_model.specs.declared.change.Change.{Change}
use Rattle.kq_model.specs.declared.event.Event.{Event}
use Rattle.kq_model.specs.declared.filter.Filter.{Filter}
use Rattle.kq_model.specs.declared.mode.Mode.{Mode}
use Rattle.kq_model.specs.declared.note.Note.{Note}
use Rattle.kq_model.specs.declared.record_kind.MemberType.TheVariants.{Truth, SideName, ModeName, NoteName}
use Rattle.kq_model.specs.declared.record_kind.RecordKind.{RecordKind}
use Rattle.kq_model.specs.declared.side.Side.{Side}
use Rattle.kq_model.specs.ChangeText.{change_list, filter_in, flags_in, is_change_list}
use Rattle.kq_model.specs.Kinds.{members_besides_op}
use Rattle.kq_model.specs.Members.{i64_in, is_whole, moment_in, optional, or_else, required, u32_in, u64_in}
use Rattle.kq_model.specs.RecordText.{event_as, is_of, is_record, mode_in, note_in, side_in}

pub record IsU32 (ms : Members) (name : List ℕ) (n : ℕ) : Type 0 where
  pub there : is_some (get_member name ms) ≡ true
  pub whole : required is_whole (get_member name ms) ≡ true
  pub value : option_and_then u32_in (get_member name ms) ≡ Some n

pub record IsU64 (ms : Members) (name : List ℕ) (n : ℕ) : Type 0 where
  pub there : is_some (get_member name ms) ≡ true
  pub whole : required is_whole (get_member name ms) ≡ true
  pub value : option_and_then u64_in (get_member name ms) ≡ Some n

-- where the member is missing, 0
pub record IsU32OrZero (ms : Members) (name : List ℕ) (n : ℕ) : Type 0 where
  pub whole : optional is_whole (get_member name ms) ≡ true
  pub value : or_else 0 u32_in (get_member name ms) ≡ Some n

pub record IsU64OrZero (ms : Members) (name : List ℕ) (n : ℕ) : Type 0 where
  pub whole : optional is_whole (get_member name ms) ≡ true
  pub value : or_else 0 u64_in (get_member name ms) ≡ Some n

pub record IsI64OrZero (ms : Members) (name : List ℕ) (z : ℤ) : Type 0 where
  pub whole : optional is_whole (get_member name ms) ≡ true
  pub value : or_else (pos 0) i64_in (get_member name ms) ≡ Some z

pub record IsFilter (ms : Members) (name : List ℕ) (filter : Filter) : Type 0 where
  pub there : is_some (get_member name ms) ≡ true
  pub value : option_and_then filter_in (get_member name ms) ≡ Some filter

-- with a sign
pub record IsI64 (ms : Members) (name : List ℕ) (z : ℤ) : Type 0 where
  pub whole : required is_whole (get_member name ms) ≡ true
  pub value : option_and_then i64_in (get_member name ms) ≡ Some z

-- a moment of the clock
pub record IsMoment (ms : Members) (name : List ℕ) (z : ℤ) : Type 0 where
  pub whole : required is_whole (get_member name ms) ≡ true
  pub value : option_and_then moment_in (get_member name ms) ≡ Some z

pub record IsTruth (ms : Members) (name : List ℕ) (truth : Bool) : Type 0 where
  pub there : required (is_of Truth) (get_member name ms) ≡ true
  pub value : option_and_then as_bool (get_member name ms) ≡ Some truth

pub record IsMode (ms : Members) (name : List ℕ) (mode : Mode) : Type 0 where
  pub there : required (is_of ModeName) (get_member name ms) ≡ true
  pub value : option_and_then mode_in (get_member name ms) ≡ Some mode

pub record IsNote (ms : Members) (name : List ℕ) (note : Note) : Type 0 where
  pub there : required (is_of NoteName) (get_member name ms) ≡ true
  pub value : option_and_then note_in (get_member name ms) ≡ Some note

pub record IsSide (ms : Members) (name : List ℕ) (side : Side) : Type 0 where
  pub there : required (is_of SideName) (get_member name ms) ≡ true
  pub value : option_and_then side_in (get_member name ms) ≡ Some side

pub record AreFlags (ms : Members) (name : List ℕ) (bits : ℕ) : Type 0 where
  pub there : is_some (get_member name ms) ≡ true
  pub value : option_and_then flags_in (get_member name ms) ≡ Some bits

pub record AreChanges (ms : Members) (name : List ℕ) (changes : List Change) : Type 0 where
  pub there : is_some (get_member name ms) ≡ true
  pub listed : required is_change_list (get_member name ms) ≡ true
  pub value : option_and_then change_list (get_member name ms) ≡ Some changes

-- the member is this text
abbrev pub IsText : Members → List ℕ → List ℕ → Type 0
IsText ms name text = get_member name ms ≡ Some (string text)

-- beside `op`, just the members of this kind, with the values of this event
pub record IsRecord (kind : RecordKind) (ms : Members) (e : Event) : Type 0 where
  pub typed : is_record (members_besides_op kind) (object ms) ≡ true
  pub value : event_as kind (object ms) ≡ Some e

-- Reading: what the bytes of a trace mean. The first line by itself has a version or a fault, each further
-- line an event or a fault; where a line has a fault, the answer is the least such line, else it is the
-- version and the list of events. The format is this project's choice; a value is what serde_json reads.
use Rattle.std.specs.Prelude.{ℕ, ◌+◌, ◌==◌, ◌||◌, Bool, List, [], ◌∷◌, codes, length}
use Rattle.std.specs.Prelude.{nat_lt, Option, Some, None}
use Rattle.std.specs.Prelude.{option_and_then, Result, Ok, Err, if◌then◌else◌}
use Rattle.std.specs.Str.{is_utf8}
use Rattle.serde_json.specs.Data.{unsigned, Data, number}
use Rattle.serde_json.specs.Read.{read}
use Rattle.serde_json.specs.Find.{get, as_str}
use Rattle.kq_model.specs.declared.event.Event.{Event}
use Rattle.kq_model.specs.declared.line_fault.LineFault.{LineFault}
use Rattle.kq_model.specs.declared.line_fault.LineFault.TheVariants.{TooLong, Header, TooManyRecords, Json, Field}
use Rattle.kq_model.specs.Kinds.{kind_named}
use Rattle.kq_model.specs.Limits.{most_line_bytes, most_records}
use Rattle.kq_model.specs.Lines.{lines_of}
use Rattle.kq_model.specs.Members.{has_just}
use Rattle.kq_model.specs.RecordText.{read_as}

-- the value that a line is
unfoldable pub json_of : List ℕ → Option Data
json_of line = if is_utf8 line then read line else None

-- ---- one line

-- a record by the name of its kind
unfoldable pub event_by : Option (List ℕ) → Data → Result Event LineFault
event_by None d = Err Field
event_by (Some op) d = read_as (kind_named op) d

unfoldable pub event_of : Option Data → Result Event LineFault
event_of None = Err Json
event_of (Some d) = event_by (option_and_then as_str (get (codes "op") d)) d

-- a version of the format that is read
abbrev pub is_version : ℕ → Bool
is_version n = (n == 1) || (n == 2)

unfoldable pub version_in : Data → Option ℕ
version_in (number (unsigned n)) = if is_version n then Some n else None
version_in _ = None

-- the version that the header names
unfoldable pub header_version : Option Data → Option ℕ
header_version None = None
header_version (Some d) =
    if has_just (codes "kqsim" ∷ []) d then option_and_then version_in (get (codes "kqsim") d) else None

unfoldable pub header_of : Option ℕ → Result ℕ LineFault
header_of (Some version) = Ok version
header_of None = Err Header

-- line 1 by itself: its version, or its fault
unfoldable pub version_on : List ℕ → Result ℕ LineFault
version_on bytes =
    if nat_lt most_line_bytes (length bytes) then Err TooLong
    else header_of (header_version (json_of bytes))

-- a further line by itself: its event, or its fault
unfoldable pub record_on : ℕ → List ℕ → Result Event LineFault
record_on line bytes =
    if nat_lt most_line_bytes (length bytes) then Err TooLong
    else if nat_lt (most_records + 1) line then Err TooManyRecords
    else event_of (json_of bytes)

unfoldable pub fault_of : {A : Type 0} → Result A LineFault → Option LineFault
fault_of (Ok x) = None
fault_of (Err fault) = Some fault

-- the fault that a line has by itself
unfoldable pub fault_on : ℕ → List ℕ → Option LineFault
fault_on line bytes = if line == 1 then fault_of (version_on bytes) else fault_of (record_on line bytes)

-- ---- the whole

-- the version and the events, or the least line that has a fault
pub data Outcome : Type 0 where
  Good : ℕ → List Event → Outcome
  Bad : ℕ → LineFault → Outcome

unfoldable pub with_event : Event → Outcome → Outcome
with_event e (Good version es) = Good version (e ∷ es)
with_event e (Bad line fault) = Bad line fault

unfoldable pub joined : ℕ → Result Event LineFault → Outcome → Outcome
joined line (Err fault) rest = Bad line fault
joined line (Ok e) rest = with_event e rest

-- the lines of records, from this line on
unfoldable pub read_records : ℕ → ℕ → List (List ℕ) → Outcome
read_records version line [] = Good version []
read_records version line (bytes ∷ rest) = joined line (record_on line bytes) (read_records version (line + 1) rest)

-- what follows the header
unfoldable pub behind_header : Result ℕ LineFault → List (List ℕ) → Outcome
behind_header (Err fault) rest = Bad 1 fault
behind_header (Ok version) rest = read_records version 2 rest

unfoldable pub read_lines : List (List ℕ) → Outcome
read_lines [] = Bad 1 Header
read_lines (first ∷ rest) = behind_header (version_on first) rest

-- what the bytes of a trace mean
unfoldable pub reading : List ℕ → Outcome
reading bytes = read_lines (lines_of bytes)

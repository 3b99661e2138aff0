-- What a trace is answered line by line. Each line behind the header has an answer: the reply to its record, or its
-- fault; a line with a fault takes no place and changes nothing. A fold over the lines, which knows no reader.
use Rattle.std.specs.Prelude.{ℕ, ◌+◌, Bool, true, false, List, [], ◌∷◌, ◌++◌, codes, filter}
use Rattle.std.specs.Prelude.{Result, Ok, Err}
use Rattle.serde_json.specs.Data.{Data, string, object, no_members, member}
use Rattle.kq_model.specs.declared.event.Event.{Event}
use Rattle.kq_model.specs.declared.line_fault.LineFault.{LineFault}
use Rattle.kq_model.specs.declared.reply.Reply.{Reply}
use Rattle.kq_model.specs.declared.reply.Reply.TheVariants.{Done, Events, Failed, Impossible}
use Rattle.kq_model.specs.declared.row.Row.{Row}
use Rattle.kq_model.specs.FaultNames.{fault_name}
use Rattle.kq_model.specs.Hearing.{listed}
use Rattle.kq_model.specs.Objects as objects
use Rattle.kq_model.specs.Reading.{record_on, version_on}
use Rattle.kq_model.specs.Report.{calls_in, events_in, last_line, reply_line}
use Rattle.kq_model.specs.Spelling.{line_text, natural}
use Rattle.kq_model.specs.System.{Stepped, System, empty_system, row_of, step}

-- ---- what is known between two lines

-- the system, and how many records, calls and events there were
pub record Standing : Type 0 where
  pub system : System listed objects.listed
  pub records : ℕ
  pub calls : ℕ
  pub events : ℕ

abbrev pub before_records : ℕ → Standing
before_records version = record { system = empty_system version; records = 0; calls = 0; events = 0 }

-- ---- one line

-- what a line is, were it the next behind a header and the records so far
abbrev pub read_next : Standing → List ℕ → Result Event LineFault
read_next s line = record_on (s.records + 2) line

-- the step of a record at the next place
abbrev pub next_step : Event → Standing → Stepped listed objects.listed
next_step e s = step (s.records + 1) e s.system

abbrev pub with_step : Stepped listed objects.listed → Standing → Standing
with_step t s = record {
  system = t.system;
  records = s.records + 1;
  calls = s.calls + calls_in t.reply;
  events = s.events + events_in t.reply;
}

unfoldable pub after_line : Result Event LineFault → Standing → Standing
after_line (Ok e) s = with_step (next_step e s) s
after_line (Err fault) s = s

-- the reply to the record at a place, or the fault of the line of a number
pub data Answer : Type 0 where
  Replied : ℕ → Reply → Answer
  Refused : ℕ → LineFault → Answer

unfoldable pub answer_to : ℕ → Result Event LineFault → Standing → Answer
answer_to number (Ok e) s = Replied (s.records + 1) (next_step e s).reply
answer_to number (Err fault) s = Refused number fault

-- ---- all lines from one on, the first of which has this number

unfoldable pub answers : ℕ → Standing → List (List ℕ) → List Answer
answers number s [] = []
answers number s (line ∷ lines) =
    answer_to number (read_next s line) s ∷ answers (number + 1) (after_line (read_next s line) s) lines

unfoldable pub standing_after : Standing → List (List ℕ) → Standing
standing_after s [] = s
standing_after s (line ∷ lines) = standing_after (after_line (read_next s line) s) lines

-- ---- texts

-- the place of a record that has no row
unfoldable pub place_line : ℕ → List ℕ
place_line place = line_text (object (member (codes "at") (natural place) no_members))

unfoldable pub fault_line : ℕ → LineFault → List ℕ
fault_line line fault =
    line_text (object
    (member (codes "line") (natural line) (member (codes "fault") (string (fault_name fault)) no_members)))

unfoldable pub replied_line : ℕ → Reply → List ℕ
replied_line place Done = place_line place
replied_line place (Events events) = reply_line place (Events events)
replied_line place (Failed e) = reply_line place (Failed e)
replied_line place (Impossible why) = reply_line place (Impossible why)

unfoldable pub answer_line : Answer → List ℕ
answer_line (Replied place reply) = replied_line place reply
answer_line (Refused line fault) = fault_line line fault

unfoldable pub answer_lines : List Answer → List ℕ
answer_lines [] = []
answer_lines (answer ∷ rest) = answer_line answer ++ answer_lines rest

-- the line that ends a report
abbrev pub counts_line : Standing → List ℕ
counts_line s = last_line s.calls s.events s.records

-- ---- an input by its lines

-- behind a header of this version, or one with a fault, behind which nothing is answered
unfoldable pub answered_behind : Result ℕ LineFault → List (List ℕ) → List ℕ
answered_behind (Ok version) lines = answer_lines (answers 2 (before_records version) lines)
answered_behind (Err fault) lines = []

unfoldable pub ended_behind : Result ℕ LineFault → List (List ℕ) → List ℕ
ended_behind (Ok version) lines =
    answer_lines (answers 2 (before_records version) lines)
    ++ counts_line (standing_after (before_records version) lines)
ended_behind (Err fault) lines = []

-- the answers to these lines, the first of which is the header
unfoldable pub answered : List (List ℕ) → List ℕ
answered [] = []
answered (header ∷ lines) = answered_behind (version_on header) lines

-- the same and the last line, of an input that has no other lines
unfoldable pub ended : List (List ℕ) → List ℕ
ended [] = []
ended (header ∷ lines) = ended_behind (version_on header) lines

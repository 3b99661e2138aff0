-- The report: a line for each row by rising place, and a last line that counts. Each line is the compact
-- text of one JSON value with its members in the order of their names' bytes (this project's choice).
use Rattle.std.specs.Prelude.{ℕ, ◌+◌, List, [], ◌∷◌, ◌++◌, map, length, codes}
use Rattle.serde_json.specs.Data.{Data, string, array, object, no_members, member}
use Rattle.serde_json.specs.View.{items_of}
use Rattle.kq_model.specs.declared.event.Event.{Event}
use Rattle.kq_model.specs.declared.kevent.Kevent.{Kevent}
use Rattle.kq_model.specs.declared.reply.Reply.{Reply}
use Rattle.kq_model.specs.declared.reply.Reply.TheVariants.{Done, Events, Failed, Impossible}
use Rattle.kq_model.specs.declared.row.Row.{Row}
use Rattle.kq_model.specs.Errno.{error_number}
use Rattle.kq_model.specs.Names.{filter_name, why_name}
use Rattle.kq_model.specs.Spelling.{natural, integer, flags_data, line_text}
use Rattle.kq_model.specs.System.{rows}

unfoldable pub kevent_data : Kevent → Data
kevent_data e = object (
    member (codes "data") (integer e.datum) (
    member (codes "fflags") (natural e.fflags) (
    member (codes "filter") (string (filter_name e.filter)) (
    member (codes "flags") (flags_data e.flags) (
    member (codes "ident") (natural e.ident) (
    member (codes "udata") (natural e.udata) no_members))))))

unfoldable pub events_data : List Kevent → Data
events_data events = array (items_of (map kevent_data events))

-- at, and what was answered
unfoldable pub row_data : ℕ → List ℕ → Data → Data
row_data place name answer = object (member (codes "at") (natural place) (member name answer no_members))

-- the line of a row; a record that was only done has none
unfoldable pub reply_line : ℕ → Reply → List ℕ
reply_line place Done = []
reply_line place (Events events) = line_text (row_data place (codes "events") (events_data events))
reply_line place (Failed e) = line_text (row_data place (codes "failed") (natural (error_number e)))
reply_line place (Impossible why) = line_text (row_data place (codes "impossible") (string (why_name why)))

unfoldable pub row_lines : List Row → List ℕ
row_lines [] = []
row_lines (row ∷ rest) = reply_line row.at row.reply ++ row_lines rest

-- the rows that are answers of calls
unfoldable pub calls_in : Reply → ℕ
calls_in Done = 0
calls_in (Events events) = 1
calls_in (Failed e) = 1
calls_in (Impossible why) = 0

unfoldable pub events_in : Reply → ℕ
events_in Done = 0
events_in (Events events) = length events
events_in (Failed e) = 0
events_in (Impossible why) = 0

unfoldable pub call_count : List Row → ℕ
call_count [] = 0
call_count (row ∷ rest) = calls_in row.reply + call_count rest

unfoldable pub event_count : List Row → ℕ
event_count [] = 0
event_count (row ∷ rest) = events_in row.reply + event_count rest

-- the line that counts calls, events and records
unfoldable pub last_line : ℕ → ℕ → ℕ → List ℕ
last_line calls events records = line_text (object (
    member (codes "calls") (natural calls) (
    member (codes "events") (natural events) (
    member (codes "records") (natural records) no_members))))

-- the report of these rows, out of so many records
unfoldable pub report : List Row → ℕ → List ℕ
report rs records = row_lines rs ++ last_line (call_count rs) (event_count rs) records

-- the report of one fold of the whole system over a trace
unfoldable pub report_of : ℕ → List Event → List ℕ
report_of version events = report (rows version events) (length events)

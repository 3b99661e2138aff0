-- What the answers are of the report, and of the records alone.
use Rattle.std.specs.Prelude.{◌≡◌, ℕ, ◌+◌, Bool, true, false, List, [], ◌∷◌, ◌++◌, filter}
use Rattle.std.specs.Prelude.{length, Result, Ok, Err}
use Rattle.kq_model.specs.declared.event.Event.{Event}
use Rattle.kq_model.specs.declared.line_fault.LineFault.{LineFault}
use Rattle.kq_model.specs.declared.reply.Reply.{Reply}
use Rattle.kq_model.specs.declared.reply.Reply.TheVariants.{Done, Events, Failed, Impossible}
use Rattle.kq_model.specs.declared.row.Row.{Row}
use Rattle.kq_model.specs.Reading.{Good, read_records, record_on}
use Rattle.kq_model.specs.Report.{report_of, row_lines}
use Rattle.kq_model.specs.System.{row_of, rows}
use Rattle.kq_step.specs.Stepping.{Answer, Refused, Replied, answer_lines, answers, before_records, counts_line}
use Rattle.kq_step.specs.Stepping.{standing_after}

-- ---- the records among lines

unfoldable pub with_record : Result Event LineFault → List Event → List Event
with_record (Ok e) es = e ∷ es
with_record (Err fault) es = es

unfoldable pub one_more : Result Event LineFault → ℕ → ℕ
one_more (Ok e) records = records + 1
one_more (Err fault) records = records

-- the records of lines before which so many came; those with a fault are left out, and count for nothing
unfoldable pub records_among : ℕ → List (List ℕ) → List Event
records_among records [] = []
records_among records (line ∷ lines) =
    with_record (record_on (records + 2) line) (records_among (one_more (record_on (records + 2) line) records) lines)

-- ---- answers

-- the rows among the answers
unfoldable pub rows_in_answer : Answer → List Row
rows_in_answer (Replied place reply) = row_of place reply
rows_in_answer (Refused line fault) = []

unfoldable pub rows_in : List Answer → List Row
rows_in [] = []
rows_in (answer ∷ rest) = rows_in_answer answer ++ rows_in rest

-- it is more than the place of a record
unfoldable pub is_more_reply : Reply → Bool
is_more_reply Done = false
is_more_reply (Events events) = true
is_more_reply (Failed e) = true
is_more_reply (Impossible why) = true

unfoldable pub is_more : Answer → Bool
is_more (Replied place reply) = is_more_reply reply
is_more (Refused line fault) = true

-- without those that are only a place
abbrev pub without_places : List Answer → List Answer
without_places all = filter is_more all

-- ---- the laws of the answers to lines behind a header of this version

pub record HaveReport (version : ℕ) (lines : List (List ℕ)) : Type 0 where
  -- their rows are those of one fold over the records among the lines, whatever lines with faults stand between
  pub rows : rows_in (answers 2 (before_records version) lines) ≡ rows version (records_among 0 lines)
  -- their lines and the last one are its report
  pub report : row_lines (rows_in (answers 2 (before_records version) lines))
      ++ counts_line (standing_after (before_records version) lines)
      ≡ report_of version (records_among 0 lines)
  -- where no line has a fault, all answers but mere places, and the last line, are the report of the trace
  pub trace : (events : List Event) → read_records version 2 lines ≡ Good version events
      → answer_lines (without_places (answers 2 (before_records version) lines))
      ++ counts_line (standing_after (before_records version) lines)
      ≡ report_of version events

-- How far a report is written: the lines of the rows so far, and what the last line is to count of them.
use Rattle.std.specs.Prelude.{ℕ, ◌+◌, List, [], ◌++◌}
use Rattle.kq_model.specs.declared.reply.Reply.{Reply}
use Rattle.kq_model.specs.declared.row.Row.{Row}
use Rattle.kq_model.specs.Report.{call_count, calls_in, event_count, events_in, reply_line, row_lines}

pub record Written : Type 0 where
  pub lines : List ℕ
  pub calls : ℕ
  pub events : ℕ

abbrev pub nothing_written : Written
nothing_written = record { lines = []; calls = 0; events = 0 }

-- with the row of the reply to the record at a place, if it has one
abbrev pub with_reply : ℕ → Reply → Written → Written
with_reply at reply w = record {
  lines = w.lines ++ reply_line at reply;
  calls = w.calls + calls_in reply;
  events = w.events + events_in reply;
}

-- the lines of these rows, and what the last line is to count of them
abbrev pub written : List Row → Written
written rows = record { lines = row_lines rows; calls = call_count rows; events = event_count rows }

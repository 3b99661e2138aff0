-- How many bytes a line has at most, told from how many events it has.
use Rattle.std.specs.Prelude.{ℕ, ◌+◌, ◌*◌}
use Rattle.kq_model.specs.declared.reply.Reply.{Reply}
use Rattle.kq_model.specs.Report.{events_in}

-- so many for the line, and for each of its events
abbrev pub line_bound : Reply → ℕ
line_bound reply = 64 + 256 * events_in reply

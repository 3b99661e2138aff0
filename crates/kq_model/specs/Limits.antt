-- The limits of the simulated system and of its trace text. All are this project's choice.
use Rattle.std.specs.Prelude.{ℕ, ◌-◌, ◌^◌, ◌≤◌}

-- bytes of a line, without the LF that ends it
abbrev pub most_line_bytes : ℕ
most_line_bytes = 2 ^ 20

-- records that are read from text
abbrev pub most_records : ℕ
most_records = 1000000

-- changes of one kevent call
abbrev pub most_changes : ℕ
most_changes = 1024

-- the room of one kevent call, in events
abbrev pub most_room : ℕ
most_room = 65536

-- the size of a buffer or of a pipe, in bytes, and a backlog, in connections; each is at least 1
abbrev pub most_capacity : ℕ
most_capacity = 2 ^ 31 - 1

-- the size of a file and an offset in it, in bytes
abbrev pub most_file_size : ℕ
most_file_size = 2 ^ 61

-- the greatest number of a signal
abbrev pub most_signal : ℕ
most_signal = 128

-- the versions of the trace's format
abbrev pub IsVersion : ℕ → Type 0
IsVersion version = (1 ≤ version) × (version ≤ 2)

-- What a record is of, by which its line is written.
use Rattle.std.specs.Prelude.{Bool, true, false}
use Rattle.kq_model.specs.declared.event.Event.{Event}
use Rattle.kq_model.specs.declared.event.Event.TheVariants as event

-- a process, its signals or its kqueues, or the clock
abbrev pub is_of_process : Event → Bool
is_of_process (event.Proc p) = true
is_of_process (event.Fork p child) = true
is_of_process (event.Exit p status) = true
is_of_process (event.Exec p) = true
is_of_process (event.Sigset p sig ignore) = true
is_of_process (event.Sig p sig) = true
is_of_process (event.Clock ns) = true
is_of_process (event.Kqueue p f) = true
is_of_process (event.Kevent p f changes room) = true
is_of_process _ = false

-- a descriptor or a socket
abbrev pub is_of_descriptor : Event → Bool
is_of_descriptor (event.Dup p f to) = true
is_of_descriptor (event.Close p f) = true
is_of_descriptor (event.Socket p f rcv snd) = true
is_of_descriptor (event.Listen p f backlog) = true
is_of_descriptor (event.Arrive p f) = true
is_of_descriptor (event.Accept p f to rcv snd) = true
is_of_descriptor (event.Connect p f) = true
is_of_descriptor (event.Rx p f n) = true
is_of_descriptor (event.Tx p f n) = true
is_of_descriptor (event.Shut p f side error) = true
is_of_descriptor (event.Lowat p f side n) = true
is_of_descriptor _ = false

-- a pipe or a file
abbrev pub is_of_file : Event → Bool
is_of_file (event.Pipe p rfd wfd cap) = true
is_of_file (event.Read p f n) = true
is_of_file (event.Write p f n) = true
is_of_file (event.File file size) = true
is_of_file (event.Open p f file mode) = true
is_of_file (event.Seek p f offset) = true
is_of_file (event.Truncate file size) = true
is_of_file (event.Note file note) = true
is_of_file _ = false

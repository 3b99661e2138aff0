-- The process that acts in an event.
use Rattle.std.specs.Prelude.{ℕ}
use Rattle.kq_model.specs.declared.event.Event.{Event}
use Rattle.kq_model.specs.declared.event.Event.TheVariants as event

-- its pid; what happens to a file or to the clock has none, and counts as that of 0
abbrev pub actor : Event → ℕ
actor (event.Proc pid) = pid
actor (event.Fork pid child) = pid
actor (event.Exit pid status) = pid
actor (event.Kqueue pid fd) = pid
actor (event.Dup pid fd to) = pid
actor (event.Close pid fd) = pid
actor (event.Socket pid fd rcv snd) = pid
actor (event.Listen pid fd backlog) = pid
actor (event.Arrive pid fd) = pid
actor (event.Accept pid fd to rcv snd) = pid
actor (event.Connect pid fd) = pid
actor (event.Rx pid fd n) = pid
actor (event.Tx pid fd n) = pid
actor (event.Shut pid fd side error) = pid
actor (event.Lowat pid fd side n) = pid
actor (event.Pipe pid rfd wfd cap) = pid
actor (event.Read pid fd n) = pid
actor (event.Write pid fd n) = pid
actor (event.Exec pid) = pid
actor (event.Sigset pid sig ignore) = pid
actor (event.Sig pid sig) = pid
actor (event.File file size) = 0
actor (event.Open pid fd file mode) = pid
actor (event.Seek pid fd offset) = pid
actor (event.Truncate file size) = 0
actor (event.Note file note) = 0
actor (event.Clock ns) = 0
actor (event.Kevent pid fd changes room) = pid

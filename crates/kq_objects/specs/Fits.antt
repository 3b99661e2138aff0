-- When what is noted of an object keeps the amounts of the code within their types: each amount is at
-- least 0, bytes and connections are below 2^32, holders below 2^64, sizes and offsets within their limit.
use Rattle.std.specs.Prelude.{◌≡◌, ◌==◌, if◌then◌else◌, ℕ, ◌+◌, ◌≤◌, ◌^◌, ℤ}
use Rattle.std.specs.Prelude.{pos, ◌+ℤ◌, ◌≤ℤ◌, ◌<ℤ◌, Option, None, Some}
use Rattle.kq_model.specs.declared.doing.DescriptionRecord.{DescriptionRecord}
use Rattle.kq_model.specs.declared.doing.DescriptionRecord.TheVariants as description
use Rattle.kq_model.specs.declared.doing.FileRecord.{FileRecord}
use Rattle.kq_model.specs.declared.doing.FileRecord.TheVariants as file
use Rattle.kq_model.specs.declared.doing.SocketRecord.{SocketRecord}
use Rattle.kq_model.specs.declared.doing.SocketRecord.TheVariants as socket
use Rattle.kq_model.specs.declared.doing.PipeRecord.{PipeRecord}
use Rattle.kq_model.specs.declared.doing.PipeRecord.TheVariants as pipe
use Rattle.kq_model.specs.declared.side.Side.TheVariants as side
use Rattle.kq_model.specs.Files.{DescriptionState, FileState}
use Rattle.kq_model.specs.Limits.{most_file_size}
use Rattle.kq_model.specs.Sockets.{SocketState}
use Rattle.kq_model.specs.Pipes.{PipeState}

-- one more descriptor can be counted
abbrev pub HasRoomToHold : ℤ → Type 0
HasRoomToHold holders = (holders +ℤ pos 1) <ℤ pos (2 ^ 64)

abbrev pub FitsSocket : SocketRecord → SocketState → Type 0
FitsSocket socket.Arrived s = (s.pending +ℤ pos 1) <ℤ pos (2 ^ 32)
FitsSocket socket.Accepted s = pos 1 ≤ℤ s.pending
FitsSocket (socket.Received bytes) s = (s.readable +ℤ pos bytes) <ℤ pos (2 ^ 32)
FitsSocket (socket.Read bytes) s = pos bytes ≤ℤ s.readable
FitsSocket (socket.Written bytes) s = (s.unsent +ℤ pos bytes) <ℤ pos (2 ^ 32)
FitsSocket (socket.Transmitted bytes) s = pos bytes ≤ℤ s.unsent
FitsSocket socket.Held s = HasRoomToHold s.holders
FitsSocket socket.Released s = pos 1 ≤ℤ s.holders
FitsSocket (socket.Made receive send) s = ⊥
FitsSocket _ s = Unit {0}

-- only what makes it is noted of a socket that is not there, and of no other
abbrev pub FitsSocketAt : SocketRecord → Option SocketState → Type 0
FitsSocketAt (socket.Made receive send) None = Unit {0}
FitsSocketAt _ None = ⊥
FitsSocketAt r (Some s) = FitsSocket r s

abbrev pub made_socket : SocketRecord → ℕ
made_socket (socket.Made receive send) = 1
made_socket _ = 0

abbrev pub FitsPipe : PipeRecord → PipeState → Type 0
FitsPipe (pipe.Made cap) s = ⊥
FitsPipe (pipe.Read bytes) s = pos bytes ≤ℤ s.bytes
FitsPipe (pipe.Written bytes) s = (s.bytes +ℤ pos bytes) <ℤ pos (2 ^ 32)
FitsPipe (pipe.Held side.Read) s = HasRoomToHold s.readers
FitsPipe (pipe.Held side.Write) s = HasRoomToHold s.writers
FitsPipe (pipe.Released side.Read) s = pos 1 ≤ℤ s.readers
FitsPipe (pipe.Released side.Write) s = pos 1 ≤ℤ s.writers

-- only what makes it is noted of a pipe that is not there, and of no other
abbrev pub FitsPipeAt : PipeRecord → Option PipeState → Type 0
FitsPipeAt (pipe.Made cap) None = Unit {0}
FitsPipeAt _ None = ⊥
FitsPipeAt r (Some s) = FitsPipe r s

abbrev pub made_pipe : PipeRecord → ℕ
made_pipe (pipe.Made cap) = 1
made_pipe _ = 0

abbrev pub FitsDescription : DescriptionRecord → DescriptionState → Type 0
FitsDescription (description.Opened number mode) s = HasRoomToHold s.holders
FitsDescription (description.Moved bytes) s = s.offset + bytes ≤ most_file_size
FitsDescription (description.Sought offset) s = offset ≤ most_file_size
FitsDescription description.Held s = HasRoomToHold s.holders
FitsDescription description.Released s = pos 1 ≤ℤ s.holders

-- only what makes it is noted of a description that is not there, and of no other
abbrev pub FitsDescriptionAt : DescriptionRecord → Option DescriptionState → Type 0
FitsDescriptionAt (description.Opened number mode) None = Unit {0}
FitsDescriptionAt (description.Opened number mode) (Some s) = ⊥
FitsDescriptionAt _ None = ⊥
FitsDescriptionAt r (Some s) = FitsDescription r s

abbrev pub made_description : DescriptionRecord → ℕ
made_description (description.Opened number mode) = 1
made_description _ = 0

abbrev pub FitsFile : FileRecord → FileState → Type 0
FitsFile (file.Made size) s = size ≤ most_file_size
FitsFile (file.Sized size) s = size ≤ most_file_size
FitsFile (file.Reached end) s = end ≤ most_file_size
FitsFile _ s = Unit {0}

-- only what makes it is noted of a file that is not there, and of no other
abbrev pub FitsFileAt : FileRecord → Option FileState → Type 0
FitsFileAt (file.Made size) None = size ≤ most_file_size
FitsFileAt (file.Made size) (Some s) = ⊥
FitsFileAt _ None = ⊥
FitsFileAt r (Some s) = FitsFile r s

abbrev pub made_file : FileRecord → ℕ
made_file (file.Made size) = 1
made_file _ = 0

-- how many descriptions are opened on a file
abbrev pub opened_on : FileRecord → ℕ
opened_on (file.Opened place) = 1
opened_on _ = 0

-- how many descriptions what is noted of the second file opens on the first
abbrev pub opened_at : ℕ → ℕ → FileRecord → ℕ
opened_at number n (file.Opened place) = if n == number then 1 else 0
opened_at number n _ = 0

-- noted of a socket that is there, and makes none
abbrev pub IsNote : SocketRecord → Option SocketState → Type 0
IsNote r x = (made_socket r ≡ 0) × FitsSocketAt r x

abbrev pub IsNoteOn : SocketRecord → SocketState → Type 0
IsNoteOn r s = IsNote r (Some s)

-- noted of a pipe that is there, and makes none
abbrev pub IsPipeNote : PipeRecord → Option PipeState → Type 0
IsPipeNote r x = (made_pipe r ≡ 0) × FitsPipeAt r x

abbrev pub IsPipeNoteOn : PipeRecord → PipeState → Type 0
IsPipeNoteOn r s = IsPipeNote r (Some s)

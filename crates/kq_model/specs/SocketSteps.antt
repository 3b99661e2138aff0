-- What a record comes to at one socket: the first reason why it is impossible, or what is noted of the
-- socket and which hint its knotes get.
-- Source: socket(2), listen(2), accept(2), connect(2), shutdown(2); that the peer is heard of by records
-- of its own, and what is impossible, is this project's choice.
use Rattle.std.specs.Prelude.{ℕ, nat_lt, nat_le, pos, ◌+ℤ◌, int_lt, int_le, Bool, not, ◌&&◌}
use Rattle.std.specs.Prelude.{◌||◌, Option, Some, None}
use Rattle.std.specs.Prelude.{Result, Ok, Err, if◌then◌else◌}
use Rattle.kq_model.specs.declared.doing.SocketRecord.{SocketRecord}
use Rattle.kq_model.specs.declared.doing.SocketRecord.TheVariants as socket
use Rattle.kq_model.specs.declared.object.Hint.{Hint}
use Rattle.kq_model.specs.declared.object.Hint.TheVariants.{Readable, Writable}
use Rattle.kq_model.specs.declared.side.Side.{Side}
use Rattle.kq_model.specs.declared.side.Side.TheVariants as side
use Rattle.kq_model.specs.declared.why.Why.{Why}
use Rattle.kq_model.specs.declared.why.Why.TheVariants.{WrongKind, Absent, TooMany}
use Rattle.kq_model.specs.Limits.{most_capacity}
use Rattle.kq_model.specs.Sockets.{SocketState, is_unconnected, socket_space}

abbrev pub SocketStep : Type 0
SocketStep = Result (SocketRecord × Option Hint) Why

unfoldable pub is_capacity : ℕ → Bool
is_capacity n = nat_lt 0 n && nat_le n most_capacity

-- the hint that something changed on this side
unfoldable pub hint_on : Side → Hint
hint_on side.Read = Readable
hint_on side.Write = Writable

unfoldable pub capacity_of : Side → SocketState → ℕ
capacity_of side.Read s = s.receive_buffer
capacity_of side.Write s = s.send_buffer

unfoldable pub listen : ℕ → SocketState → SocketStep
listen backlog s =
    if not (is_unconnected s) then Err WrongKind
    else if not (is_capacity backlog) then Err TooMany
    else Ok (socket.Listened backlog, None)

unfoldable pub arrive : SocketState → SocketStep
arrive s =
    if not s.listening then Err WrongKind
    else if int_le (pos s.backlog) s.pending then Err TooMany
    else Ok (socket.Arrived, Some Readable)

-- at the socket that listens; the sizes are those of the new one
unfoldable pub accept : ℕ → ℕ → SocketState → SocketStep
accept receive_buffer send_buffer s =
    if not s.listening then Err WrongKind
    else if int_le s.pending (pos 0) then Err Absent
    else if not (is_capacity receive_buffer && is_capacity send_buffer) then Err TooMany
    else Ok (socket.Accepted, None)

unfoldable pub connect : SocketState → SocketStep
connect s = if not (is_unconnected s) then Err WrongKind else Ok (socket.Connected, Some Writable)

unfoldable pub receive : ℕ → SocketState → SocketStep
receive bytes s =
    if not s.connected || s.read_shut then Err WrongKind
    else if int_lt (pos s.receive_buffer) (s.readable +ℤ pos bytes) then Err TooMany
    else Ok (socket.Received bytes, Some Readable)

unfoldable pub transmit : ℕ → SocketState → SocketStep
transmit bytes s =
    if not s.connected then Err WrongKind
    else if int_lt s.unsent (pos bytes) then Err TooMany
    else Ok (socket.Transmitted bytes, Some Writable)

unfoldable pub shut : Side → ℕ → SocketState → SocketStep
shut side error s = if s.listening then Err WrongKind else Ok (socket.Shut side error, Some (hint_on side))

unfoldable pub low_water : Side → ℕ → SocketState → SocketStep
low_water side mark s =
    if s.listening then Err WrongKind
    else if not (nat_lt 0 mark && nat_le mark (capacity_of side s)) then Err TooMany
    else Ok (socket.Marked side mark, Some (hint_on side))

unfoldable pub read_socket : ℕ → SocketState → SocketStep
read_socket bytes s =
    if s.listening then Err WrongKind
    else if int_lt s.readable (pos bytes) then Err TooMany
    else Ok (socket.Read bytes, None)

unfoldable pub write_socket : ℕ → SocketState → SocketStep
write_socket bytes s =
    if not s.connected || s.write_shut then Err WrongKind
    else if int_lt (socket_space s) (pos bytes) then Err TooMany
    else Ok (socket.Written bytes, None)

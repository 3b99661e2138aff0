-- Sockets: their records, the quantities of a list of them, and what a filter sees. A socket is
-- unconnected, listening or connected. Sizes, marks and amounts are bytes.
-- Source: socket(2), listen(2), setsockopt(2) for the low-water marks; the first marks of a socket are
-- those of FreeBSD, 1 and 2,048, the second at most the send buffer (this project's choice).
use Rattle.std.specs.Prelude.{ℕ, min, ℤ, pos, ◌-ℤ◌, int_lt, Bool, true, false, not, ◌&&◌}
use Rattle.std.specs.Prelude.{◌||◌, List, Option, Some}
use Rattle.std.specs.Prelude.{None, if◌then◌else◌}
use Rattle.kq_model.specs.declared.doing.SocketRecord.{SocketRecord}
use Rattle.kq_model.specs.declared.doing.SocketRecord.TheVariants.{Made, Listened, Arrived, Accepted, Connected}
use Rattle.kq_model.specs.declared.doing.SocketRecord.TheVariants.{Received, Read, Written, Transmitted, Shut, Marked}
use Rattle.kq_model.specs.declared.doing.SocketRecord.TheVariants.{Held, Released}
use Rattle.kq_model.specs.declared.object.View.{View}
use Rattle.kq_model.specs.declared.object.View.TheVariants as view
use Rattle.kq_model.specs.declared.side.Side.TheVariants as side
use Rattle.kq_model.specs.Accounts.{plus, less, instead, balance, latest, once}

pub record SocketState : Type 0 where
  pub receive_buffer : ℕ
  pub send_buffer : ℕ
  pub listening : Bool
  -- how many connections may wait
  pub backlog : ℕ
  -- connections that wait to be accepted
  pub pending : ℤ
  pub connected : Bool
  -- in the receive buffer
  pub readable : ℤ
  -- in the send buffer
  pub unsent : ℤ
  pub read_mark : ℕ
  pub write_mark : ℕ
  pub read_shut : Bool
  pub read_error : ℕ
  pub write_shut : Bool
  pub write_error : ℕ
  -- descriptors that name the socket
  pub holders : ℤ

-- ---- what one record says of each quantity

abbrev pub receive_buffer_of : SocketRecord → Option ℕ
receive_buffer_of (Made receive send) = Some receive
receive_buffer_of _ = None

abbrev pub send_buffer_of : SocketRecord → Option ℕ
send_buffer_of (Made receive send) = Some send
send_buffer_of _ = None

abbrev pub listens : SocketRecord → Bool
listens (Listened backlog) = true
listens _ = false

abbrev pub backlog_of : SocketRecord → Option ℕ
backlog_of (Listened backlog) = Some backlog
backlog_of _ = None

abbrev pub arrives : SocketRecord → Option ℕ
arrives Arrived = Some 1
arrives _ = None

abbrev pub accepts : SocketRecord → Option ℕ
accepts Accepted = Some 1
accepts _ = None

abbrev pub connects : SocketRecord → Bool
connects Connected = true
connects _ = false

abbrev pub received : SocketRecord → Option ℕ
received (Received bytes) = Some bytes
received _ = None

abbrev pub taken : SocketRecord → Option ℕ
taken (Read bytes) = Some bytes
taken _ = None

abbrev pub written : SocketRecord → Option ℕ
written (Written bytes) = Some bytes
written _ = None

abbrev pub transmitted : SocketRecord → Option ℕ
transmitted (Transmitted bytes) = Some bytes
transmitted _ = None

abbrev pub read_mark_of : SocketRecord → Option ℕ
read_mark_of (Made receive send) = Some 1
read_mark_of (Marked side.Read mark) = Some mark
read_mark_of _ = None

abbrev pub write_mark_of : SocketRecord → Option ℕ
write_mark_of (Made receive send) = Some (min 2048 send)
write_mark_of (Marked side.Write mark) = Some mark
write_mark_of _ = None

abbrev pub shuts_read : SocketRecord → Bool
shuts_read (Shut side.Read error) = true
shuts_read _ = false

abbrev pub read_error_of : SocketRecord → Option ℕ
read_error_of (Shut side.Read error) = Some error
read_error_of _ = None

abbrev pub shuts_write : SocketRecord → Bool
shuts_write (Shut side.Write error) = true
shuts_write _ = false

abbrev pub write_error_of : SocketRecord → Option ℕ
write_error_of (Shut side.Write error) = Some error
write_error_of _ = None

abbrev pub holds : SocketRecord → Option ℕ
holds (Made receive send) = Some 1
holds Held = Some 1
holds _ = None

abbrev pub releases : SocketRecord → Option ℕ
releases Released = Some 1
releases _ = None

-- ---- the quantities of a list of records

unfoldable pub socket_state : List SocketRecord → SocketState
socket_state rs = record {
  receive_buffer = latest 0 receive_buffer_of rs;
  send_buffer = latest 0 send_buffer_of rs;
  listening = once listens rs;
  backlog = latest 0 backlog_of rs;
  pending = balance arrives accepts rs;
  connected = once connects rs;
  readable = balance received taken rs;
  unsent = balance written transmitted rs;
  read_mark = latest 0 read_mark_of rs;
  write_mark = latest 0 write_mark_of rs;
  read_shut = once shuts_read rs;
  read_error = latest 0 read_error_of rs;
  write_shut = once shuts_write rs;
  write_error = latest 0 write_error_of rs;
  holders = balance holds releases rs;
}

-- the quantities after one more record
unfoldable pub socket_after : SocketRecord → SocketState → SocketState
socket_after r s = record {
  receive_buffer = instead s.receive_buffer (receive_buffer_of r);
  send_buffer = instead s.send_buffer (send_buffer_of r);
  listening = listens r || s.listening;
  backlog = instead s.backlog (backlog_of r);
  pending = less (plus s.pending (arrives r)) (accepts r);
  connected = connects r || s.connected;
  readable = less (plus s.readable (received r)) (taken r);
  unsent = less (plus s.unsent (written r)) (transmitted r);
  read_mark = instead s.read_mark (read_mark_of r);
  write_mark = instead s.write_mark (write_mark_of r);
  read_shut = shuts_read r || s.read_shut;
  read_error = instead s.read_error (read_error_of r);
  write_shut = shuts_write r || s.write_shut;
  write_error = instead s.write_error (write_error_of r);
  holders = less (plus s.holders (holds r)) (releases r);
}

abbrev pub no_socket : SocketState
no_socket = record {
  receive_buffer = 0;
  send_buffer = 0;
  listening = false;
  backlog = 0;
  pending = pos 0;
  connected = false;
  readable = pos 0;
  unsent = pos 0;
  read_mark = 0;
  write_mark = 0;
  read_shut = false;
  read_error = 0;
  write_shut = false;
  write_error = 0;
  holders = pos 0;
}

-- ---- read off the quantities

abbrev pub is_socket_held : SocketState → Bool
is_socket_held s = int_lt (pos 0) s.holders

abbrev pub is_unconnected : SocketState → Bool
is_unconnected s = not s.listening && not s.connected

-- how many more bytes fit into the send buffer
abbrev pub socket_space : SocketState → ℤ
socket_space s = pos s.send_buffer -ℤ s.unsent

unfoldable pub socket_view : SocketState → View
socket_view s =
    if s.listening then view.Listen s.pending
    else view.Sock
    s.readable (pos s.read_mark) s.read_shut s.read_error s.connected
    (socket_space s) (pos s.write_mark) s.write_shut s.write_error

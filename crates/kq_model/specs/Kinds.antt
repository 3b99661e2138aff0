-- The kinds of records, by the names that a trace has for them, and the members that each has besides `op`
-- (this project's choice).
use Rattle.std.specs.Prelude.{ℕ, List, [], ◌∷◌, Option, Some, None, codes, if◌then◌else◌}
use Rattle.kq_model.specs.declared.record_kind.MemberType.{MemberType}
use Rattle.kq_model.specs.declared.record_kind.MemberType.TheVariants.{Whole, Truth, SideName, ModeName, NoteName}
use Rattle.kq_model.specs.declared.record_kind.MemberType.TheVariants.{ChangeList}
use Rattle.kq_model.specs.declared.record_kind.RecordKind.{RecordKind}
use Rattle.kq_model.specs.declared.record_kind.RecordKind.TheVariants as kind
use Rattle.kq_model.specs.Names.{is_text}

abbrev pub kind_name : RecordKind → List ℕ
kind_name kind.Proc = codes "proc"
kind_name kind.Fork = codes "fork"
kind_name kind.Exit = codes "exit"
kind_name kind.Kqueue = codes "kqueue"
kind_name kind.Dup = codes "dup"
kind_name kind.Close = codes "close"
kind_name kind.Socket = codes "socket"
kind_name kind.Listen = codes "listen"
kind_name kind.Arrive = codes "arrive"
kind_name kind.Accept = codes "accept"
kind_name kind.Connect = codes "connect"
kind_name kind.Rx = codes "rx"
kind_name kind.Tx = codes "tx"
kind_name kind.Shut = codes "shut"
kind_name kind.Lowat = codes "lowat"
kind_name kind.Pipe = codes "pipe"
kind_name kind.Read = codes "read"
kind_name kind.Write = codes "write"
kind_name kind.Exec = codes "exec"
kind_name kind.Sigset = codes "sigset"
kind_name kind.Sig = codes "sig"
kind_name kind.File = codes "file"
kind_name kind.Open = codes "open"
kind_name kind.Seek = codes "seek"
kind_name kind.Truncate = codes "truncate"
kind_name kind.Note = codes "note"
kind_name kind.Clock = codes "clock"
kind_name kind.Kevent = codes "kevent"

abbrev pub kinds : List RecordKind
kinds =
    kind.Proc ∷ kind.Fork ∷ kind.Exit ∷ kind.Kqueue ∷ kind.Dup ∷ kind.Close
    ∷ kind.Socket ∷ kind.Listen ∷ kind.Arrive ∷ kind.Accept ∷ kind.Connect ∷ kind.Rx
    ∷ kind.Tx ∷ kind.Shut ∷ kind.Lowat ∷ kind.Pipe ∷ kind.Read ∷ kind.Write
    ∷ kind.Exec ∷ kind.Sigset ∷ kind.Sig ∷ kind.File ∷ kind.Open ∷ kind.Seek ∷ kind.Truncate
    ∷ kind.Note ∷ kind.Clock
    ∷ kind.Kevent ∷ []

unfoldable pub kind_among : List RecordKind → List ℕ → Option RecordKind
kind_among [] name = None
kind_among (k ∷ ks) name = if is_text name (kind_name k) then Some k else kind_among ks name

-- the kind of this name
unfoldable pub kind_named : List ℕ → Option RecordKind
kind_named name = kind_among kinds name

-- ---- members

abbrev pub members_besides_op : RecordKind → List (List ℕ × MemberType)
members_besides_op kind.Proc = (codes "pid", Whole) ∷ []
members_besides_op kind.Fork = (codes "pid", Whole) ∷ (codes "child", Whole) ∷ []
members_besides_op kind.Exit = (codes "pid", Whole) ∷ (codes "status", Whole) ∷ []
members_besides_op kind.Kqueue = (codes "pid", Whole) ∷ (codes "fd", Whole) ∷ []
members_besides_op kind.Dup = (codes "pid", Whole) ∷ (codes "fd", Whole) ∷ (codes "to", Whole) ∷ []
members_besides_op kind.Close = (codes "pid", Whole) ∷ (codes "fd", Whole) ∷ []
members_besides_op kind.Socket =
    (codes "pid", Whole) ∷ (codes "fd", Whole) ∷ (codes "rcv", Whole) ∷ (codes "snd", Whole) ∷ []
members_besides_op kind.Listen = (codes "pid", Whole) ∷ (codes "fd", Whole) ∷ (codes "backlog", Whole) ∷ []
members_besides_op kind.Arrive = (codes "pid", Whole) ∷ (codes "fd", Whole) ∷ []
members_besides_op kind.Accept =
    (codes "pid", Whole) ∷ (codes "fd", Whole) ∷ (codes "to", Whole) ∷ (codes "rcv", Whole)
    ∷ (codes "snd", Whole) ∷ []
members_besides_op kind.Connect = (codes "pid", Whole) ∷ (codes "fd", Whole) ∷ []
members_besides_op kind.Rx = (codes "pid", Whole) ∷ (codes "fd", Whole) ∷ (codes "n", Whole) ∷ []
members_besides_op kind.Tx = (codes "pid", Whole) ∷ (codes "fd", Whole) ∷ (codes "n", Whole) ∷ []
members_besides_op kind.Shut =
    (codes "pid", Whole) ∷ (codes "fd", Whole) ∷ (codes "side", SideName) ∷ (codes "error", Whole) ∷ []
members_besides_op kind.Lowat =
    (codes "pid", Whole) ∷ (codes "fd", Whole) ∷ (codes "side", SideName) ∷ (codes "n", Whole) ∷ []
members_besides_op kind.Pipe =
    (codes "pid", Whole) ∷ (codes "rfd", Whole) ∷ (codes "wfd", Whole) ∷ (codes "cap", Whole) ∷ []
members_besides_op kind.Read = (codes "pid", Whole) ∷ (codes "fd", Whole) ∷ (codes "n", Whole) ∷ []
members_besides_op kind.Write = (codes "pid", Whole) ∷ (codes "fd", Whole) ∷ (codes "n", Whole) ∷ []
members_besides_op kind.Exec = (codes "pid", Whole) ∷ []
members_besides_op kind.Sigset = (codes "pid", Whole) ∷ (codes "sig", Whole) ∷ (codes "ignore", Truth) ∷ []
members_besides_op kind.Sig = (codes "pid", Whole) ∷ (codes "sig", Whole) ∷ []
members_besides_op kind.File = (codes "file", Whole) ∷ (codes "size", Whole) ∷ []
members_besides_op kind.Open =
    (codes "pid", Whole) ∷ (codes "fd", Whole) ∷ (codes "file", Whole) ∷ (codes "mode", ModeName) ∷ []
members_besides_op kind.Seek = (codes "pid", Whole) ∷ (codes "fd", Whole) ∷ (codes "offset", Whole) ∷ []
members_besides_op kind.Truncate = (codes "file", Whole) ∷ (codes "size", Whole) ∷ []
members_besides_op kind.Note = (codes "file", Whole) ∷ (codes "note", NoteName) ∷ []
members_besides_op kind.Clock = (codes "ns", Whole) ∷ []
members_besides_op kind.Kevent =
    (codes "pid", Whole) ∷ (codes "fd", Whole) ∷ (codes "changes", ChangeList) ∷ (codes "room", Whole) ∷ []

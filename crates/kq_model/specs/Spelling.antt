-- Spelling: the canonical text of a trace. Each record is the compact text of one JSON value, with all
-- its members in the order of their names' bytes, and each line ends with LF (this project's choice).
use Rattle.std.specs.Prelude.{ℕ, ℤ, Bool, List, [], ◌∷◌, ◌++◌, map, codes}
use Rattle.serde_json.specs.Data.{unsigned, Data, boolean, number, string, array, object, Members, no_members, member}
use Rattle.serde_json.specs.Find.{of_integer}
use Rattle.serde_json.specs.View.{items_of}
use Rattle.serde_json.specs.Written.{compact_text}
use Rattle.kq_model.specs.declared.change.Change.{Change}
use Rattle.kq_model.specs.declared.event.Event.{Event}
use Rattle.kq_model.specs.declared.event.Event.TheVariants as event
use Rattle.kq_model.specs.declared.event_flags.EvFlags.{EvFlags}
use Rattle.kq_model.specs.declared.side.Side.{Side}
use Rattle.kq_model.specs.Lines.{line_feed}
use Rattle.kq_model.specs.Names.{filter_name, mode_name, names_of, note_name, side_name}

unfoldable pub natural : ℕ → Data
natural n = number (unsigned n)

unfoldable pub integer : ℤ → Data
integer z = number (of_integer z)

unfoldable pub flags_data : EvFlags → Data
flags_data flags = array (items_of (map string (names_of flags)))

unfoldable pub change_data : Change → Data
change_data c = object (
    member (codes "data") (integer c.datum) (
    member (codes "fflags") (natural c.fflags) (
    member (codes "filter") (string (filter_name c.filter)) (
    member (codes "flags") (flags_data c.flags) (
    member (codes "ident") (natural c.ident) (
    member (codes "udata") (natural c.udata) no_members))))))

-- ---- the members of a record

-- the value of a member
pub data Value : Type 0 where
  Number : ℕ → Value
  Integer : ℤ → Value
  Truth : Bool → Value
  Name : List ℕ → Value
  Changes : List Change → Value

abbrev pub value_data : Value → Data
value_data (Number n) = natural n
value_data (Integer z) = integer z
value_data (Truth b) = boolean b
value_data (Name name) = string name
value_data (Changes changes) = array (items_of (map change_data changes))

abbrev pub members_data : List (List ℕ × Value) → Members
members_data [] = no_members
members_data (m ∷ ms) = member m.0 (value_data m.1) (members_data ms)

-- each with its name
abbrev pub op : List ℕ → List ℕ × Value
op kind = (codes "op", Name kind)

abbrev pub pid : ℕ → List ℕ × Value
pid n = (codes "pid", Number n)

abbrev pub fd : ℕ → List ℕ × Value
fd n = (codes "fd", Number n)

abbrev pub on_side : Side → List ℕ × Value
on_side side = (codes "side", Name (side_name side))

-- in the order of their names' bytes
unfoldable pub members_of : Event → List (List ℕ × Value)
members_of (event.Proc p) = op (codes "proc") ∷ pid p ∷ []
members_of (event.Fork p child) = (codes "child", Number child) ∷ op (codes "fork") ∷ pid p ∷ []
members_of (event.Exit p status) = op (codes "exit") ∷ pid p ∷ (codes "status", Number status) ∷ []
members_of (event.Kqueue p f) = fd f ∷ op (codes "kqueue") ∷ pid p ∷ []
members_of (event.Dup p f to) = fd f ∷ op (codes "dup") ∷ pid p ∷ (codes "to", Number to) ∷ []
members_of (event.Close p f) = fd f ∷ op (codes "close") ∷ pid p ∷ []
members_of (event.Socket p f rcv snd) =
    fd f ∷ op (codes "socket") ∷ pid p ∷ (codes "rcv", Number rcv) ∷ (codes "snd", Number snd) ∷ []
members_of (event.Listen p f backlog) =
    (codes "backlog", Number backlog) ∷ fd f ∷ op (codes "listen") ∷ pid p ∷ []
members_of (event.Arrive p f) = fd f ∷ op (codes "arrive") ∷ pid p ∷ []
members_of (event.Accept p f to rcv snd) =
    fd f ∷ op (codes "accept") ∷ pid p ∷ (codes "rcv", Number rcv) ∷ (codes "snd", Number snd)
    ∷ (codes "to", Number to) ∷ []
members_of (event.Connect p f) = fd f ∷ op (codes "connect") ∷ pid p ∷ []
members_of (event.Rx p f n) = fd f ∷ (codes "n", Number n) ∷ op (codes "rx") ∷ pid p ∷ []
members_of (event.Tx p f n) = fd f ∷ (codes "n", Number n) ∷ op (codes "tx") ∷ pid p ∷ []
members_of (event.Shut p f side error) =
    (codes "error", Number error) ∷ fd f ∷ op (codes "shut") ∷ pid p ∷ on_side side ∷ []
members_of (event.Lowat p f side n) =
    fd f ∷ (codes "n", Number n) ∷ op (codes "lowat") ∷ pid p ∷ on_side side ∷ []
members_of (event.Pipe p rfd wfd cap) =
    (codes "cap", Number cap) ∷ op (codes "pipe") ∷ pid p ∷ (codes "rfd", Number rfd)
    ∷ (codes "wfd", Number wfd) ∷ []
members_of (event.Read p f n) = fd f ∷ (codes "n", Number n) ∷ op (codes "read") ∷ pid p ∷ []
members_of (event.Write p f n) = fd f ∷ (codes "n", Number n) ∷ op (codes "write") ∷ pid p ∷ []
members_of (event.Exec p) = op (codes "exec") ∷ pid p ∷ []
members_of (event.Sigset p sig ignore) =
    (codes "ignore", Truth ignore) ∷ op (codes "sigset") ∷ pid p ∷ (codes "sig", Number sig) ∷ []
members_of (event.Sig p sig) = op (codes "sig") ∷ pid p ∷ (codes "sig", Number sig) ∷ []
members_of (event.File file size) =
    (codes "file", Number file) ∷ op (codes "file") ∷ (codes "size", Integer size) ∷ []
members_of (event.Open p f file mode) =
    fd f ∷ (codes "file", Number file) ∷ (codes "mode", Name (mode_name mode)) ∷ op (codes "open") ∷ pid p
    ∷ []
members_of (event.Seek p f offset) = fd f ∷ (codes "offset", Integer offset) ∷ op (codes "seek") ∷ pid p ∷ []
members_of (event.Truncate file size) =
    (codes "file", Number file) ∷ op (codes "truncate") ∷ (codes "size", Integer size) ∷ []
members_of (event.Note file note) =
    (codes "file", Number file) ∷ (codes "note", Name (note_name note)) ∷ op (codes "note") ∷ []
members_of (event.Clock ns) = (codes "ns", Integer ns) ∷ op (codes "clock") ∷ []
members_of (event.Kevent p f changes room) =
    (codes "changes", Changes changes) ∷ fd f ∷ op (codes "kevent") ∷ pid p ∷ (codes "room", Number room) ∷ []

unfoldable pub record_data : Event → Data
record_data e = object (members_data (members_of e))

unfoldable pub header_data : ℕ → Data
header_data version = object (member (codes "kqsim") (natural version) no_members)

-- a value on a line of its own
unfoldable pub line_text : Data → List ℕ
line_text d = compact_text d ++ line_feed ∷ []

unfoldable pub records_text : List Event → List ℕ
records_text [] = []
records_text (e ∷ es) = line_text (record_data e) ++ records_text es

-- the text of a trace: its version and its events
unfoldable pub spelling : ℕ → List Event → List ℕ
spelling version events = line_text (header_data version) ++ records_text events

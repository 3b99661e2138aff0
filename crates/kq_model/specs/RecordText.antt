-- A record: an object whose member `op` names its kind, and with the members of this kind.
use Rattle.std.specs.Prelude.{ℕ, ℤ, ◌+◌, ◌==◌, Bool, ◌&&◌, List, length, codes, Option, Some}
use Rattle.std.specs.Prelude.{None, option_and_then}
use Rattle.std.specs.Prelude.{Result, Err}
use Rattle.std.specs.List.{list_all}
use Rattle.std.specs.Option.{is_some}
use Rattle.serde_json.specs.Data.{Data}
use Rattle.serde_json.specs.Find.{get, as_bool, as_str}
use Rattle.kq_model.specs.declared.change.Change.{Change}
use Rattle.kq_model.specs.declared.event.Event.{Event}
use Rattle.kq_model.specs.declared.event.Event.TheVariants as event
use Rattle.kq_model.specs.declared.line_fault.LineFault.{LineFault}
use Rattle.kq_model.specs.declared.line_fault.LineFault.TheVariants.{Field}
use Rattle.kq_model.specs.declared.mode.Mode.{Mode}
use Rattle.kq_model.specs.declared.note.Note.{Note}
use Rattle.kq_model.specs.declared.record_kind.MemberType.{MemberType}
use Rattle.kq_model.specs.declared.record_kind.MemberType.TheVariants.{Whole, Truth, SideName, ModeName, NoteName}
use Rattle.kq_model.specs.declared.record_kind.MemberType.TheVariants.{ChangeList}
use Rattle.kq_model.specs.declared.record_kind.RecordKind.{RecordKind}
use Rattle.kq_model.specs.declared.record_kind.RecordKind.TheVariants as kind
use Rattle.kq_model.specs.declared.side.Side.{Side}
use Rattle.kq_model.specs.ChangeText.{is_change_list, change_list}
use Rattle.kq_model.specs.Kinds.{members_besides_op}
use Rattle.kq_model.specs.Members.{i64_in, is_whole, moment_in, required, shaped, u32_in, width}
use Rattle.kq_model.specs.Names.{mode_named, note_named, side_named}

-- ---- the members, each of its type

unfoldable pub side_in : Data → Option Side
side_in d = option_and_then side_named (as_str d)

unfoldable pub mode_in : Data → Option Mode
mode_in d = option_and_then mode_named (as_str d)

unfoldable pub note_in : Data → Option Note
note_in d = option_and_then note_named (as_str d)

unfoldable pub is_of : MemberType → Data → Bool
is_of Whole d = is_whole d
is_of SideName d = is_some (side_in d)
is_of Truth d = is_some (as_bool d)
is_of ModeName d = is_some (mode_in d)
is_of NoteName d = is_some (note_in d)
is_of ChangeList d = is_change_list d

-- beside `op`, each of these members and no further one
unfoldable pub is_record : List (List ℕ × MemberType) → Data → Bool
is_record members d =
    list_all (λ m. required (is_of m.1) (get m.0 d)) members && (width d == length members + 1)

-- ---- their values, where they are in range

unfoldable pub u32_at : List ℕ → Data → Option ℕ
u32_at name d = option_and_then u32_in (get name d)

unfoldable pub side_at : List ℕ → Data → Option Side
side_at name d = option_and_then side_in (get name d)

unfoldable pub i64_at : List ℕ → Data → Option ℤ
i64_at name d = option_and_then i64_in (get name d)

unfoldable pub moment_at : List ℕ → Data → Option ℤ
moment_at name d = option_and_then moment_in (get name d)

unfoldable pub truth_at : List ℕ → Data → Option Bool
truth_at name d = option_and_then as_bool (get name d)

unfoldable pub mode_at : List ℕ → Data → Option Mode
mode_at name d = option_and_then mode_in (get name d)

unfoldable pub note_at : List ℕ → Data → Option Note
note_at name d = option_and_then note_in (get name d)

unfoldable pub changes_at : List ℕ → Data → Option (List Change)
changes_at name d = option_and_then change_list (get name d)

-- the event that has the number
abbrev pub with_u32 : List ℕ → Data → (ℕ → Option Event) → Option Event
with_u32 name d made = option_and_then made (u32_at name d)

-- the number of the process, and for most kinds a descriptor of it
abbrev pub with_pid : Data → (ℕ → Option Event) → Option Event
with_pid d made = with_u32 (codes "pid") d made

abbrev pub with_pid_fd : Data → (ℕ → ℕ → Option Event) → Option Event
with_pid_fd d made = with_pid d (λ pid. with_u32 (codes "fd") d (λ fd. made pid fd))

abbrev pub with_i64 : List ℕ → Data → (ℤ → Option Event) → Option Event
with_i64 name d made = option_and_then made (i64_at name d)

abbrev pub with_moment : List ℕ → Data → (ℤ → Option Event) → Option Event
with_moment name d made = option_and_then made (moment_at name d)

abbrev pub with_truth : List ℕ → Data → (Bool → Option Event) → Option Event
with_truth name d made = option_and_then made (truth_at name d)

abbrev pub with_mode : List ℕ → Data → (Mode → Option Event) → Option Event
with_mode name d made = option_and_then made (mode_at name d)

abbrev pub with_note : List ℕ → Data → (Note → Option Event) → Option Event
with_note name d made = option_and_then made (note_at name d)

abbrev pub with_side : Data → (Side → Option Event) → Option Event
with_side d made = option_and_then made (side_at (codes "side") d)

unfoldable pub event_as : RecordKind → Data → Option Event
event_as kind.Proc d = with_pid d (λ pid. Some (event.Proc pid))
event_as kind.Fork d = with_pid d (λ pid. with_u32 (codes "child") d (λ child. Some (event.Fork pid child)))
event_as kind.Exit d = with_pid d (λ pid. with_u32 (codes "status") d (λ status. Some (event.Exit pid status)))
event_as kind.Kqueue d = with_pid_fd d (λ pid fd. Some (event.Kqueue pid fd))
event_as kind.Dup d = with_pid_fd d (λ pid fd. with_u32 (codes "to") d (λ to. Some (event.Dup pid fd to)))
event_as kind.Close d = with_pid_fd d (λ pid fd. Some (event.Close pid fd))
event_as kind.Socket d =
    with_pid_fd d (λ pid fd. with_u32 (codes "rcv") d (λ rcv.
    with_u32 (codes "snd") d (λ snd. Some (event.Socket pid fd rcv snd))))
event_as kind.Listen d =
    with_pid_fd d (λ pid fd. with_u32 (codes "backlog") d (λ backlog. Some (event.Listen pid fd backlog)))
event_as kind.Arrive d = with_pid_fd d (λ pid fd. Some (event.Arrive pid fd))
event_as kind.Accept d =
    with_pid_fd d (λ pid fd. with_u32 (codes "to") d (λ to. with_u32 (codes "rcv") d (λ rcv.
    with_u32 (codes "snd") d (λ snd. Some (event.Accept pid fd to rcv snd)))))
event_as kind.Connect d = with_pid_fd d (λ pid fd. Some (event.Connect pid fd))
event_as kind.Rx d = with_pid_fd d (λ pid fd. with_u32 (codes "n") d (λ n. Some (event.Rx pid fd n)))
event_as kind.Tx d = with_pid_fd d (λ pid fd. with_u32 (codes "n") d (λ n. Some (event.Tx pid fd n)))
event_as kind.Shut d =
    with_pid_fd d (λ pid fd. with_side d (λ side.
    with_u32 (codes "error") d (λ error. Some (event.Shut pid fd side error))))
event_as kind.Lowat d =
    with_pid_fd d (λ pid fd. with_side d (λ side. with_u32 (codes "n") d (λ n. Some (event.Lowat pid fd side n))))
event_as kind.Pipe d =
    with_pid d (λ pid. with_u32 (codes "rfd") d (λ rfd. with_u32 (codes "wfd") d (λ wfd.
    with_u32 (codes "cap") d (λ cap. Some (event.Pipe pid rfd wfd cap)))))
event_as kind.Read d = with_pid_fd d (λ pid fd. with_u32 (codes "n") d (λ n. Some (event.Read pid fd n)))
event_as kind.Write d = with_pid_fd d (λ pid fd. with_u32 (codes "n") d (λ n. Some (event.Write pid fd n)))
event_as kind.Exec d = with_pid d (λ pid. Some (event.Exec pid))
event_as kind.Sigset d =
    with_pid d (λ pid. with_u32 (codes "sig") d (λ sig. with_truth (codes "ignore") d
    (λ ignore. Some (event.Sigset pid sig ignore))))
event_as kind.Sig d = with_pid d (λ pid. with_u32 (codes "sig") d (λ sig. Some (event.Sig pid sig)))
event_as kind.File d =
    with_u32 (codes "file") d (λ file. with_i64 (codes "size") d (λ size. Some (event.File file size)))
event_as kind.Open d =
    with_pid_fd d (λ pid fd. with_u32 (codes "file") d (λ file. with_mode (codes "mode") d
    (λ mode. Some (event.Open pid fd file mode))))
event_as kind.Seek d =
    with_pid_fd d (λ pid fd. with_i64 (codes "offset") d (λ offset. Some (event.Seek pid fd offset)))
event_as kind.Truncate d =
    with_u32 (codes "file") d (λ file. with_i64 (codes "size") d (λ size. Some (event.Truncate file size)))
event_as kind.Note d =
    with_u32 (codes "file") d (λ file. with_note (codes "note") d (λ note. Some (event.Note file note)))
event_as kind.Clock d = with_moment (codes "ns") d (λ ns. Some (event.Clock ns))
event_as kind.Kevent d =
    with_pid_fd d (λ pid fd. with_u32 (codes "room") d (λ room.
    option_and_then (λ changes. Some (event.Kevent pid fd changes room)) (changes_at (codes "changes") d)))

-- the record of this kind, or its fault
unfoldable pub read_as : Option RecordKind → Data → Result Event LineFault
read_as None d = Err Field
read_as (Some k) d = shaped (is_record (members_besides_op k) d) (event_as k d)

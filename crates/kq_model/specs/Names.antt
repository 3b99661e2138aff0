-- The names of filters, flags, sides, modes, notes and reasons in a trace and a report (this project's choice).
use Rattle.std.specs.Prelude.{ℕ, nat_eq, Bool, List, [], ◌∷◌, Option, Some, None, codes, filter, map}
use Rattle.std.specs.Prelude.{if◌then◌else◌}
use Rattle.std.specs.Cmp.Lexicographic.{pointwise}
use Rattle.kq_model.specs.declared.event_flags.EvFlags.{EvFlags}
use Rattle.kq_model.specs.declared.filter.Filter.{Filter}
use Rattle.kq_model.specs.declared.filter.Filter.TheVariants.{Read, Write, Vnode, Proc, Signal, Timer, User, Aio, Lio}
use Rattle.kq_model.specs.declared.filter.Filter.TheVariants.{Fs, Procdesc, Sendfile, Empty}
use Rattle.kq_model.specs.declared.mode.Mode.{Mode}
use Rattle.kq_model.specs.declared.mode.Mode.TheVariants as mode
use Rattle.kq_model.specs.declared.note.Note.{Note}
use Rattle.kq_model.specs.declared.note.Note.TheVariants as note
use Rattle.kq_model.specs.declared.side.Side.{Side}
use Rattle.kq_model.specs.declared.side.Side.TheVariants as side
use Rattle.kq_model.specs.declared.why.Why.{Why}
use Rattle.kq_model.specs.declared.why.Why.TheVariants.{NoProcess, UsedPid, NoDescriptor, UsedDescriptor, WrongKind}
use Rattle.kq_model.specs.declared.why.Why.TheVariants.{Absent, UsedFile, ClockBack, TooMany}
use Rattle.kq_model.specs.Bits.{asks}
use Rattle.kq_model.specs.FlagNames.{flag_table}

abbrev pub filter_name : Filter → List ℕ
filter_name Read = codes "READ"
filter_name Write = codes "WRITE"
filter_name Vnode = codes "VNODE"
filter_name Proc = codes "PROC"
filter_name Signal = codes "SIGNAL"
filter_name Timer = codes "TIMER"
filter_name User = codes "USER"
filter_name Aio = codes "AIO"
filter_name Lio = codes "LIO"
filter_name Fs = codes "FS"
filter_name Procdesc = codes "PROCDESC"
filter_name Sendfile = codes "SENDFILE"
filter_name Empty = codes "EMPTY"

abbrev pub filters : List Filter
filters = Read ∷ Write ∷ Vnode ∷ Proc ∷ Signal ∷ Timer ∷ User ∷ Aio ∷ Lio ∷ Fs ∷ Procdesc
    ∷ Sendfile ∷ Empty ∷ []

-- the two texts are one
abbrev pub is_text : List ℕ → List ℕ → Bool
is_text a b = pointwise nat_eq a b

unfoldable pub filter_among : List Filter → List ℕ → Option Filter
filter_among [] name = None
filter_among (f ∷ fs) name = if is_text name (filter_name f) then Some f else filter_among fs name

-- the filter of this name
unfoldable pub filter_named : List ℕ → Option Filter
filter_named name = filter_among filters name

-- the names of the flags that are set, each once, in the order of the table
unfoldable pub names_of : EvFlags → List (List ℕ)
names_of flags = map (λ row. row.0) (filter (λ row. asks flags row.1) flag_table)

abbrev pub side_name : Side → List ℕ
side_name side.Read = codes "read"
side_name side.Write = codes "write"

-- the side of this name
unfoldable pub side_named : List ℕ → Option Side
side_named name =
    if is_text name (codes "read") then Some side.Read
    else if is_text name (codes "write") then Some side.Write
    else None

abbrev pub mode_name : Mode → List ℕ
mode_name mode.Read = codes "r"
mode_name mode.Write = codes "w"
mode_name mode.ReadWrite = codes "rw"

-- the mode of this name
unfoldable pub mode_named : List ℕ → Option Mode
mode_named name =
    if is_text name (codes "r") then Some mode.Read
    else if is_text name (codes "w") then Some mode.Write
    else if is_text name (codes "rw") then Some mode.ReadWrite
    else None

abbrev pub note_name : Note → List ℕ
note_name note.Attrib = codes "attrib"
note_name note.Link = codes "link"
note_name note.Rename = codes "rename"
note_name note.Delete = codes "delete"
note_name note.Revoke = codes "revoke"

-- the note of this name
unfoldable pub note_named : List ℕ → Option Note
note_named name =
    if is_text name (codes "attrib") then Some note.Attrib
    else if is_text name (codes "link") then Some note.Link
    else if is_text name (codes "rename") then Some note.Rename
    else if is_text name (codes "delete") then Some note.Delete
    else if is_text name (codes "revoke") then Some note.Revoke
    else None

-- why a record is impossible
abbrev pub why_name : Why → List ℕ
why_name NoProcess = codes "NoProcess"
why_name UsedPid = codes "UsedPid"
why_name NoDescriptor = codes "NoDescriptor"
why_name UsedDescriptor = codes "UsedDescriptor"
why_name WrongKind = codes "WrongKind"
why_name Absent = codes "Absent"
why_name UsedFile = codes "UsedFile"
why_name ClockBack = codes "ClockBack"
why_name TooMany = codes "TooMany"

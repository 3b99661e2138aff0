-- FreeBSD's numbers: filters (sys/event.h), the sides of shutdown(2), the modes of open(2), notes of EVFILT_VNODE.
use Rattle.std.specs.Prelude.{ℕ, ◌==◌, ℤ, pos, neg_ℤ, Option, Some, None, if◌then◌else◌}
use Rattle.kq_model.specs.declared.filter.Filter.{Filter}
use Rattle.kq_model.specs.declared.filter.Filter.TheVariants.{Read, Write, Vnode, Proc, Signal, Timer, User, Aio, Lio}
use Rattle.kq_model.specs.declared.filter.Filter.TheVariants.{Fs, Procdesc, Sendfile, Empty}
use Rattle.kq_model.specs.declared.mode.Mode.{Mode}
use Rattle.kq_model.specs.declared.mode.Mode.TheVariants as mode
use Rattle.kq_model.specs.declared.note.Note.{Note}
use Rattle.kq_model.specs.declared.note.Note.TheVariants as note
use Rattle.kq_model.specs.declared.side.Side.{Side}
use Rattle.kq_model.specs.declared.side.Side.TheVariants as side
use Rattle.kq_model.specs.NoteBits.{bit_of}

-- EVFILT_READ is -1, and so on
abbrev pub filter_number : Filter → ℤ
filter_number Read = neg_ℤ (pos 1)
filter_number Write = neg_ℤ (pos 2)
filter_number Aio = neg_ℤ (pos 3)
filter_number Vnode = neg_ℤ (pos 4)
filter_number Proc = neg_ℤ (pos 5)
filter_number Signal = neg_ℤ (pos 6)
filter_number Timer = neg_ℤ (pos 7)
filter_number Procdesc = neg_ℤ (pos 8)
filter_number Fs = neg_ℤ (pos 9)
filter_number Lio = neg_ℤ (pos 10)
filter_number User = neg_ℤ (pos 11)
filter_number Sendfile = neg_ℤ (pos 12)
filter_number Empty = neg_ℤ (pos 13)

-- SHUT_RD and SHUT_WR
abbrev pub side_of_number : ℕ → Option Side
side_of_number n = if n == 0 then Some side.Read else if n == 1 then Some side.Write else None

-- O_RDONLY, O_WRONLY and O_RDWR
abbrev pub mode_of_number : ℕ → Option Mode
mode_of_number n =
    if n == 0 then Some mode.Read
    else if n == 1 then Some mode.Write
    else if n == 2 then Some mode.ReadWrite
    else None

-- NOTE_DELETE and so on
abbrev pub note_of_number : ℕ → Option Note
note_of_number n =
    if n == bit_of note.Delete then Some note.Delete
    else if n == bit_of note.Attrib then Some note.Attrib
    else if n == bit_of note.Link then Some note.Link
    else if n == bit_of note.Rename then Some note.Rename
    else if n == bit_of note.Revoke then Some note.Revoke
    else None

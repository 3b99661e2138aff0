-- The notes of EVFILT_VNODE as bits of fflags; the names are kqueue(2)'s, the values this project's.
use Rattle.std.specs.Prelude.{ℕ}
use Rattle.kq_model.specs.declared.note.Note.{Note}
use Rattle.kq_model.specs.declared.note.Note.TheVariants.{Attrib, Link, Rename, Delete, Revoke}

abbrev pub note_delete : ℕ
note_delete = 1

abbrev pub note_write : ℕ
note_write = 2

abbrev pub note_extend : ℕ
note_extend = 4

abbrev pub note_attrib : ℕ
note_attrib = 8

abbrev pub note_link : ℕ
note_link = 16

abbrev pub note_rename : ℕ
note_rename = 32

abbrev pub note_revoke : ℕ
note_revoke = 64

abbrev pub note_open : ℕ
note_open = 128

abbrev pub note_close : ℕ
note_close = 256

abbrev pub note_close_write : ℕ
note_close_write = 512

abbrev pub note_read : ℕ
note_read = 1024

abbrev pub bit_of : Note → ℕ
bit_of Attrib = note_attrib
bit_of Link = note_link
bit_of Rename = note_rename
bit_of Delete = note_delete
bit_of Revoke = note_revoke

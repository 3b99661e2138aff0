-- A record's value is read as the record.
use Rattle.std.proofs.Common.{◌≡◌, ℕ, ◌^◌, ◌<◌, ℤ, pos, negsuc, true, List, [], ◌∷◌, map, Some, Ok, refl}
use Rattle.std.proofs.lemmas.Bool.{lt-ltb}
use Rattle.serde_json.specs.Data.{string}
use Rattle.serde_json.specs.View.{items_of}
use Rattle.kq_model.specs.declared.change.Change.{Change}
use Rattle.kq_model.specs.declared.event.Event.{Event}
use Rattle.kq_model.specs.declared.event.Event.TheVariants as event
use Rattle.kq_model.specs.declared.filter.Filter.{Filter}
use Rattle.kq_model.specs.declared.filter.Filter.TheVariants.{Read, Write, Vnode, Proc as ProcFilter, Signal, Timer, User, Aio, Lio, Fs, Procdesc, Sendfile, Empty}
use Rattle.kq_model.specs.declared.mode.Mode.{Mode}
use Rattle.kq_model.specs.declared.mode.Mode.TheVariants as mode
use Rattle.kq_model.specs.declared.note.Note.{Note}
use Rattle.kq_model.specs.declared.note.Note.TheVariants as note
use Rattle.kq_model.specs.declared.side.Side.{Side}
use Rattle.kq_model.specs.declared.side.Side.TheVariants as side
use Rattle.kq_model.specs.ChangeText.{are_changes, change_list, change_of, change_with, changes_of, extra_width, filter_in, is_change, is_change_list, prepended}
use Rattle.kq_model.specs.Members.{has_just, i64_in, is_whole, from_zero, member_count, moment_in, optional, or_else, required, shaped, u32_in, u64_in, width}
use Rattle.kq_model.specs.Names.{filter_among, filter_name, filter_named, mode_name, mode_named, note_name, note_named, side_name, side_named}
use Rattle.kq_model.specs.Kinds.{kind_among, kind_named}
use Rattle.kq_model.specs.Reading.{event_by, event_of, header_version, version_in}
use Rattle.kq_model.specs.RecordText.{changes_at, event_as, i64_at, is_of, is_record, mode_at, mode_in, moment_at, note_at, note_in, read_as, side_at, side_in, truth_at, u32_at}
use Rattle.kq_model.specs.Spelling.{change_data, header_data, integer, members_of, natural, record_data}
use Rattle.kq_spell.specs.Again.{FitsChange, FitsChanges, FitsInteger, FitsRecord, HasNamedFlags, HaveNamedFlags, IsFromTheStart, NamesItsFlags}
use Rattle.kq_spell.proofs.FlagBits.{flags_again}

-- ---- numbers and names

pub whole_natural : (n : ℕ) → is_whole (natural n) ≡ true
unfolding is_whole natural
whole_natural n = refl

whole_integer : (z : ℤ) → is_whole (integer z) ≡ true
unfolding is_whole integer
whole_integer (pos n) = refl
whole_integer (negsuc n) = refl

u64_again : (n : ℕ) → u64_in (natural n) ≡ Some n
unfolding u64_in natural
u64_again n = refl

pub u32_again : (n : ℕ) → n < 2 ^ 32 → u32_in (natural n) ≡ Some n
unfolding u32_in natural
u32_again n fits = rw (lt-ltb n (2 ^ 32) fits) refl

i64_again : (z : ℤ) → FitsInteger z → i64_in (integer z) ≡ Some z
unfolding i64_in integer
i64_again (pos n) fits = rw (lt-ltb n (2 ^ 63) fits) refl
i64_again (negsuc n) fits = refl

filter_again : (f : Filter) → filter_in (string (filter_name f)) ≡ Some f
unfolding filter_in filter_named filter_among
filter_again Read = refl
filter_again Write = refl
filter_again Vnode = refl
filter_again ProcFilter = refl
filter_again Signal = refl
filter_again Timer = refl
filter_again User = refl
filter_again Aio = refl
filter_again Lio = refl
filter_again Fs = refl
filter_again Procdesc = refl
filter_again Sendfile = refl
filter_again Empty = refl

-- ---- changes

is_change_again : (c : Change) → HasNamedFlags c → is_change (change_data c) ≡ true
unfolding is_change change_data required optional width member_count extra_width
is_change_again c named =
    rw (whole_natural c.ident, filter_again c.filter, flags_again c.flags named, whole_natural c.fflags, whole_integer c.datum, whole_natural c.udata) refl

change_again : (c : Change) → FitsChange c → HasNamedFlags c → change_of (change_data c) ≡ Some c
unfolding change_of change_data or_else change_with
change_again c fits named =
    rw (u64_again c.ident, filter_again c.filter, flags_again c.flags named, u32_again c.fflags fits.fflags, i64_again c.datum fits.datum, u64_again c.udata) refl

pub are_changes_again : (cs : List Change) → HaveNamedFlags cs → are_changes (items_of (map change_data cs)) ≡ true
unfolding are_changes
are_changes_again [] named = refl
are_changes_again (c ∷ cs) named = rw (is_change_again c named.0, are_changes_again cs named.1) refl

pub changes_again : (cs : List Change) → FitsChanges cs → HaveNamedFlags cs → changes_of (items_of (map change_data cs)) ≡ Some cs
unfolding changes_of prepended
changes_again [] fits named = refl
changes_again (c ∷ cs) fits named = rw (change_again c fits.0 named.0, changes_again cs fits.1 named.1) refl

-- ---- records

side_again : (side : Side) → side_in (string (side_name side)) ≡ Some side
unfolding side_in side_named
side_again side.Read = refl
side_again side.Write = refl

mode_again : (mode : Mode) → mode_in (string (mode_name mode)) ≡ Some mode
unfolding mode_in mode_named
mode_again mode.Read = refl
mode_again mode.Write = refl
mode_again mode.ReadWrite = refl

note_again : (note : Note) → note_in (string (note_name note)) ≡ Some note
unfolding note_in note_named
note_again note.Attrib = refl
note_again note.Link = refl
note_again note.Rename = refl
note_again note.Delete = refl
note_again note.Revoke = refl

pub event_again : (e : Event) → FitsRecord e → NamesItsFlags e → IsFromTheStart e → event_of (Some (record_data e)) ≡ Ok e
unfolding event_of event_by kind_named kind_among read_as is_record is_of event_as u32_at i64_at moment_at moment_in from_zero truth_at mode_at note_at side_at changes_at record_data members_of width member_count required shaped is_change_list change_list FitsRecord
event_again (event.Proc pid) fits named start = rw (whole_natural pid, u32_again pid fits.2.1) refl
event_again (event.Fork pid child) fits named start = rw (whole_natural pid, whole_natural child, u32_again pid fits.2.2.1, u32_again child fits.1) refl
event_again (event.Exit pid status) fits named start = rw (whole_natural pid, whole_natural status, u32_again pid fits.2.1, u32_again status fits.2.2.1) refl
event_again (event.Kqueue pid fd) fits named start = rw (whole_natural pid, whole_natural fd, u32_again pid fits.2.2.1, u32_again fd fits.1) refl
event_again (event.Dup pid fd to) fits named start = rw (whole_natural pid, whole_natural fd, whole_natural to, u32_again pid fits.2.2.1, u32_again fd fits.1, u32_again to fits.2.2.2.1) refl
event_again (event.Close pid fd) fits named start = rw (whole_natural pid, whole_natural fd, u32_again pid fits.2.2.1, u32_again fd fits.1) refl
event_again (event.Socket pid fd rcv snd) fits named start = rw (whole_natural pid, whole_natural fd, whole_natural rcv, whole_natural snd, u32_again pid fits.2.2.1, u32_again fd fits.1, u32_again rcv fits.2.2.2.1, u32_again snd fits.2.2.2.2.1) refl
event_again (event.Listen pid fd backlog) fits named start = rw (whole_natural pid, whole_natural fd, whole_natural backlog, u32_again pid fits.2.2.2.1, u32_again fd fits.2.1, u32_again backlog fits.1) refl
event_again (event.Arrive pid fd) fits named start = rw (whole_natural pid, whole_natural fd, u32_again pid fits.2.2.1, u32_again fd fits.1) refl
event_again (event.Accept pid fd to rcv snd) fits named start = rw (whole_natural pid, whole_natural fd, whole_natural to, whole_natural rcv, whole_natural snd, u32_again pid fits.2.2.1, u32_again fd fits.1, u32_again to fits.2.2.2.2.2.1, u32_again rcv fits.2.2.2.1, u32_again snd fits.2.2.2.2.1) refl
event_again (event.Connect pid fd) fits named start = rw (whole_natural pid, whole_natural fd, u32_again pid fits.2.2.1, u32_again fd fits.1) refl
event_again (event.Rx pid fd n) fits named start = rw (whole_natural pid, whole_natural fd, whole_natural n, u32_again pid fits.2.2.2.1, u32_again fd fits.1, u32_again n fits.2.1) refl
event_again (event.Tx pid fd n) fits named start = rw (whole_natural pid, whole_natural fd, whole_natural n, u32_again pid fits.2.2.2.1, u32_again fd fits.1, u32_again n fits.2.1) refl
event_again (event.Shut pid fd side error) fits named start = rw (whole_natural pid, whole_natural fd, side_again side, whole_natural error, u32_again pid fits.2.2.2.1, u32_again fd fits.2.1, u32_again error fits.1) refl
event_again (event.Lowat pid fd side n) fits named start = rw (whole_natural pid, whole_natural fd, side_again side, whole_natural n, u32_again pid fits.2.2.2.1, u32_again fd fits.1, u32_again n fits.2.1) refl
event_again (event.Pipe pid rfd wfd cap) fits named start = rw (whole_natural pid, whole_natural rfd, whole_natural wfd, whole_natural cap, u32_again pid fits.2.2.1, u32_again rfd fits.2.2.2.1, u32_again wfd fits.2.2.2.2.1, u32_again cap fits.1) refl
event_again (event.Read pid fd n) fits named start = rw (whole_natural pid, whole_natural fd, whole_natural n, u32_again pid fits.2.2.2.1, u32_again fd fits.1, u32_again n fits.2.1) refl
event_again (event.Write pid fd n) fits named start = rw (whole_natural pid, whole_natural fd, whole_natural n, u32_again pid fits.2.2.2.1, u32_again fd fits.1, u32_again n fits.2.1) refl
event_again (event.Exec pid) fits named start = rw (whole_natural pid, u32_again pid fits.2.1) refl
event_again (event.Sigset pid sig ignore) fits named start = rw (whole_natural pid, whole_natural sig, u32_again pid fits.2.2.1, u32_again sig fits.2.2.2.1) refl
event_again (event.Sig pid sig) fits named start = rw (whole_natural pid, whole_natural sig, u32_again pid fits.2.1, u32_again sig fits.2.2.1) refl
event_again (event.File file size) fits named start = rw (whole_natural file, whole_integer size, u32_again file fits.1, i64_again size fits.2.2.1) refl
event_again (event.Open pid fd file mode) fits named start = rw (whole_natural pid, whole_natural fd, whole_natural file, mode_again mode, u32_again pid fits.2.2.2.2.1, u32_again fd fits.1, u32_again file fits.2.1) refl
event_again (event.Seek pid fd offset) fits named start = rw (whole_natural pid, whole_natural fd, whole_integer offset, u32_again pid fits.2.2.2.1, u32_again fd fits.1, i64_again offset fits.2.1) refl
event_again (event.Truncate file size) fits named start = rw (whole_natural file, whole_integer size, u32_again file fits.1, i64_again size fits.2.2.1) refl
event_again (event.Note file note) fits named start = rw (whole_natural file, note_again note, u32_again file fits.1) refl
event_again (event.Clock ns) fits named start = rw (whole_integer ns, i64_again ns fits.1, start) refl
event_again (event.Kevent pid fd changes room) fits named start = rw (whole_natural pid, whole_natural fd, are_changes_again changes named, whole_natural room, u32_again pid fits.2.2.2.1, u32_again fd fits.2.1, changes_again changes fits.1 named, u32_again room fits.2.2.2.2.1) refl

pub first_header_again : header_version (Some (header_data 1)) ≡ Some 1
unfolding header_version has_just width member_count version_in header_data natural
first_header_again = refl

pub second_header_again : header_version (Some (header_data 2)) ≡ Some 2
unfolding header_version has_just width member_count version_in header_data natural
second_header_again = refl

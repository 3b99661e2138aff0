-- A filter's look at its target: nothing, or what an event is to say (kqueue(2), the filters). Amounts, sizes and
-- marks are bytes.
use Rattle.std.specs.Prelude.{ℕ, ℤ, pos, ◌-ℤ◌, int_lt, int_le, ◌==◌, Bool, true, false, not}
use Rattle.std.specs.Prelude.{◌&&◌, ◌||◌, Option}
use Rattle.std.specs.Prelude.{Some, None, option_and_then, if◌then◌else◌}
use Rattle.std.specs.Int.{int_min, saturate_signed, w64}
use Rattle.kq_model.specs.declared.filter.Filter.{Filter}
use Rattle.kq_model.specs.declared.filter.Filter.TheVariants.{Read, Write, Vnode, Proc, Signal, Timer, User}
use Rattle.kq_model.specs.declared.object.View.{View}
use Rattle.kq_model.specs.declared.object.View.TheVariants as view
use Rattle.kq_model.specs.Bits.{has_note, lowat_note, exit_note, child_note}
use Rattle.kq_model.specs.Hearing.{Hearing}
use Rattle.kq_model.specs.Knote.{Knote}
use Rattle.kq_model.specs.Views.{Views}

-- what the look sees where the condition holds
pub record Seen : Type 0 where
  pub fflags : ℕ
  pub datum : ℤ
  pub eof : Bool

-- the filters that are simulated; all others are refused
unfoldable pub is_simulated : Filter → Bool
is_simulated Read = true
is_simulated Write = true
is_simulated Vnode = true
is_simulated Proc = true
is_simulated Signal = true
is_simulated Timer = true
is_simulated User = true
is_simulated _ = false

-- ---- amounts

-- data has 64 bits: a difference that they do not hold is the nearest that they do. Within the limits of sizes
-- and buffers there is none such.
abbrev pub difference : ℤ → ℤ → ℤ
difference a b = saturate_signed w64 (a -ℤ b)

-- a pipe is ready for WRITE from a space of 512 on, or of all it holds (this project's choice)
abbrev pub pipe_mark : ℤ → ℤ
pipe_mark cap = int_min (pos 512) cap

-- ---- what a side shows

-- One side of an object, with an amount. It is shown where it is ready, and where it was shut, which is EOF with
-- an error or 0.
unfoldable pub side_seen : Bool → Bool → ℕ → ℤ → Option Seen
side_seen ready shut error amount =
    if ready || shut then Some (record { fflags = if shut then error else 0; datum = amount; eof = shut }) else None

-- where there is data, it is shown
unfoldable pub amount_seen : Bool → ℤ → Option Seen
amount_seen ready amount = side_seen ready false 0 amount

-- the mark is the socket's, or the one that the knote brings
unfoldable pub read_seen : (ℤ → ℤ) → Option View → Option Seen
read_seen mark (Some (view.Listen pending)) = amount_seen (int_lt (pos 0) pending) pending
read_seen mark (Some (view.Sock readable read_mark read_shut read_error connected
    space write_mark write_shut write_error)) =
    side_seen (int_le (mark read_mark) readable) read_shut read_error readable
read_seen mark (Some (view.Pipe bytes cap writer reader)) = side_seen (int_lt (pos 0) bytes) (not writer) 0 bytes
read_seen mark (Some (view.Open size offset)) =
    amount_seen (int_lt (pos 0) (difference size offset) || int_lt (difference size offset) (pos 0))
    (difference size offset)
read_seen mark _ = None

-- a listening socket is never ready for WRITE
unfoldable pub write_seen : (ℤ → ℤ) → Option View → Option Seen
write_seen mark (Some (view.Sock readable read_mark read_shut read_error connected
    space write_mark write_shut write_error)) =
    side_seen (connected && int_le (mark write_mark) space) write_shut write_error space
write_seen mark (Some (view.Pipe bytes cap writer reader)) =
    side_seen (int_le (pipe_mark cap) (difference cap bytes)) (not reader) 0 (difference cap bytes)
write_seen mark _ = None

-- the exit status of a process that has exited
unfoldable pub status_of : Option View → Option ℕ
status_of (Some (view.Process exited)) = exited
status_of _ = None

-- the notes of a process; the status is told where NOTE_EXIT is among them
unfoldable pub process_seen : ℕ → Option ℕ → Option Seen
process_seen notes None = if notes == 0 then None else Some (record { fflags = notes; datum = pos 0; eof = false })
process_seen notes (Some status) =
    if notes == 0 then None
    else Some (record { fflags = notes; datum = if has_note notes exit_note then pos status else pos 0; eof = true })

unfoldable pub notes_seen : ℕ → Option Seen
notes_seen notes = if notes == 0 then None else Some (record { fflags = notes; datum = pos 0; eof = false })

unfoldable pub count_seen : ℕ → Option Seen
count_seen count = if count == 0 then None else Some (record { fflags = 0; datum = pos count; eof = false })

-- the notice of a child that a process with this pid forked
abbrev pub notice_seen : ℕ → Seen
notice_seen parent = record { fflags = child_note; datum = pos parent; eof = false }

-- a knote that has a notice sees this alone
unfoldable pub notice_or : Option ℕ → Option Seen → Option Seen
notice_or None seen = seen
notice_or (Some parent) seen = Some (notice_seen parent)

module _ {S : Type 0} {h : Hearing S} where
  -- the low-water mark: NOTE_LOWAT puts the knote's data, whatever its sign, in the place of the socket's
  unfoldable pub mark_of : Knote h → ℤ → ℤ
  mark_of k mark = if has_note k.fflags lowat_note then k.datum else mark

  -- EVFILT_USER: triggered; its own bits and the data of the last change
  unfoldable pub look_user : Knote h → Option Seen
  look_user k = if k.triggered then Some (record { fflags = k.bits; datum = k.datum; eof = false }) else None

  -- what a knote sees of its target, by its filter
  unfoldable pub look_by : Filter → Option View → Knote h → Option Seen
  look_by Read view k = read_seen (mark_of k) view
  look_by Write view k = write_seen (mark_of k) view
  look_by Vnode view k = notes_seen (h.notes k.seen)
  look_by Proc view k = process_seen (h.notes k.seen) (status_of view)
  look_by Signal view k = count_seen (h.count k.seen)
  look_by Timer view k = count_seen (h.count k.seen)
  look_by User view k = look_user k
  look_by _ view k = None

  unfoldable pub look : Views → Knote h → Option Seen
  look views k = notice_or k.notice (look_by k.key.filter (option_and_then views.view k.target) k)

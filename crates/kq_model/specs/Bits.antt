-- The bits of flags and of fflags: FreeBSD's sys/event.h, kqueue(2).
use Rattle.std.specs.Prelude.{ℕ, Bool, ◌==◌, ◌^◌, ◌-◌, ◌/◌, if◌then◌else◌}
use Rattle.std.specs.Int.RustNames.{bit_and, bit_or}
use Rattle.kq_model.specs.declared.event_flags.EvFlags.{EvFlags}

-- ---- flags of a change or an event

abbrev pub add : ℕ
add = 1

abbrev pub delete : ℕ
delete = 2

abbrev pub enable : ℕ
enable = 4

abbrev pub disable : ℕ
disable = 8

abbrev pub oneshot : ℕ
oneshot = 16

abbrev pub clear : ℕ
clear = 32

abbrev pub receipt : ℕ
receipt = 64

abbrev pub dispatch : ℕ
dispatch = 128

abbrev pub error : ℕ
error = 16384

abbrev pub eof : ℕ
eof = 32768

-- the flags have this one
abbrev pub asks : EvFlags → ℕ → Bool
asks flags flag = bit_and flags.0 flag == flag

-- one more flag, where it holds
abbrev pub flag_if : Bool → ℕ → EvFlags → EvFlags
flag_if holds flag flags = if holds then record { 0 = bit_or flags.0 flag } else flags

-- ---- fflags of READ and WRITE

-- NOTE_LOWAT
abbrev pub lowat_note : ℕ
lowat_note = 1

-- ---- fflags of PROC

-- NOTE_EXIT
abbrev pub exit_note : ℕ
exit_note = 2 ^ 31

-- NOTE_FORK
abbrev pub fork_note : ℕ
fork_note = 2 ^ 30

-- NOTE_EXEC
abbrev pub exec_note : ℕ
exec_note = 2 ^ 29

-- NOTE_TRACK
abbrev pub track_note : ℕ
track_note = 1

-- NOTE_CHILD
abbrev pub child_note : ℕ
child_note = 4

-- these fflags have the bit
abbrev pub has_note : ℕ → ℕ → Bool
has_note fflags note = bit_and fflags note == note

-- ---- fflags of TIMER

-- NOTE_ABSTIME
abbrev pub abstime_note : ℕ
abstime_note = 16

-- ---- fflags of USER

-- NOTE_TRIGGER
abbrev pub trigger : ℕ
trigger = 2 ^ 24

abbrev pub triggers : ℕ → Bool
triggers fflags = bit_and fflags trigger == trigger

-- the low 24 bits are the user's own
abbrev pub own_bits : ℕ → ℕ
own_bits fflags = bit_and fflags (2 ^ 24 - 1)

-- the two control bits at the top: NOTE_FFNOP 0, NOTE_FFAND 1, NOTE_FFOR 2, NOTE_FFCOPY 3
abbrev pub control : ℕ → ℕ
control fflags = fflags / 2 ^ 30

-- Short words for traces, answers and reports, for the worked runs.
use Rattle.std.specs.Prelude.{ℕ, pos, ◌+◌, ◌^◌, List, [], ◌∷◌, ◌++◌, codes}
use Rattle.kq_model.specs.declared.change.Change.{Change}
use Rattle.kq_model.specs.declared.event.Event.{Event}
use Rattle.kq_model.specs.declared.event.Event.TheVariants.{Proc, Kqueue}
use Rattle.kq_model.specs.declared.event.Event.TheVariants as record_of
use Rattle.kq_model.specs.declared.filter.Filter.TheVariants.{User}
use Rattle.kq_model.specs.declared.kevent.Kevent.{Kevent}
use Rattle.kq_model.specs.declared.reply.Reply.{Reply}
use Rattle.kq_model.specs.declared.row.Row.{Row}
use Rattle.kq_model.specs.Bits.{error}
use Rattle.kq_model.specs.Lines.{line_feed}
use Rattle.kq_model.specs.Reading.{Outcome, reading}

-- ---- traces

-- a change of a USER: its ident, flags and fflags
abbrev pub user : ℕ → ℕ → ℕ → Change
user ident flags fflags = record { ident = ident; filter = User; flags = record { 0 = flags }; fflags = fflags; datum = pos 0; udata = 0 }

-- the control bits of a USER
abbrev pub ff_and : ℕ
ff_and = 2 ^ 30

abbrev pub ff_or : ℕ
ff_or = 2 ^ 31

abbrev pub ff_copy : ℕ
ff_copy = 2 ^ 30 + 2 ^ 31

-- a call on the kqueue that the traces below open
abbrev pub kevent : List Change → ℕ → Event
kevent changes room = record_of.Kevent 1 9 changes room

-- a process, its kqueue, and what comes then from place 3 on
abbrev pub opened : List Event → List Event
opened events = Proc 1 ∷ Kqueue 1 9 ∷ events

-- ---- answers

-- a returned USER: its ident, flags and fflags
abbrev pub event : ℕ → ℕ → ℕ → Kevent
event ident flags fflags = record { ident = ident; filter = User; flags = record { 0 = flags }; fflags = fflags; datum = pos 0; udata = 0 }

-- the entry that answers a change of a USER: its ident, its fflags and the number of the error or 0
abbrev pub entry : ℕ → ℕ → ℕ → Kevent
entry ident fflags number = record { ident = ident; filter = User; flags = record { 0 = error }; fflags = fflags; datum = pos number; udata = 0 }

-- rows at this place and those that follow it
abbrev pub rows_from : ℕ → List Reply → List Row
rows_from place [] = []
rows_from place (reply ∷ replies) = record { at = place; reply = reply } ∷ rows_from (place + 1) replies

-- ---- texts

-- each line ended by LF
abbrev pub text : List (List ℕ) → List ℕ
text [] = []
text (line ∷ lines) = line ++ line_feed ∷ text lines

-- what this line behind the header reads as
abbrev pub second_line : List ℕ → Outcome
second_line line = reading (text (codes "{\"kqsim\":1}" ∷ line ∷ []))

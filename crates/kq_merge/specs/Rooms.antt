-- How many events the reply to an event can have, and how many bytes its line.
use Rattle.std.specs.Prelude.{ℕ, ◌≤◌, ◌+◌, ◌*◌, length, nat_lt, if◌then◌else◌}
use Rattle.kq_model.specs.declared.event.Event.{Event}
use Rattle.kq_model.specs.declared.event.Event.TheVariants.{Kevent}
use Rattle.kq_model.specs.declared.reply.Reply.{Reply}
use Rattle.kq_model.specs.declared.reply.Reply.TheVariants.{Events}
use Rattle.kq_model.specs.Limits.{most_room}

-- a call whose room is over the limit is impossible, and gives none
abbrev pub room_of : Event → ℕ
room_of (Kevent pid fd changes room) = if nat_lt most_room room then 0 else room
room_of _ = 0

abbrev pub HasAtMost : ℕ → Reply → Type 0
HasAtMost room (Events events) = length events ≤ room
HasAtMost room _ = Unit {0}

-- the bytes of a line with so many events
abbrev pub bytes_for : ℕ → ℕ
bytes_for room = 64 + 256 * room

-- the line of the reply to an event has at most so many bytes
abbrev pub answer_bound : Event → ℕ
answer_bound event = bytes_for (room_of event)

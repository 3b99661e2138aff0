-- What is known of an item by the record that it is of.
use Rattle.std.specs.Prelude.{◌≡◌, ◌≤◌, ℕ, pos, List, Option, Some}
use Rattle.kq_model.specs.declared.change.Change.{Change}
use Rattle.kq_model.specs.declared.event.Event.{Event}
use Rattle.kq_model.specs.declared.event.Event.TheVariants as event
use Rattle.kq_projection.specs.declared.history.item.Item.{Item}
use Rattle.kq_projection.specs.declared.history.item.What.{What}
use Rattle.kq_projection.specs.declared.history.item.What.TheVariants as what
use Rattle.kq_projection.specs.Traced.{Traced, event_at}

-- a step of the clock, which never goes back
abbrev pub IsClockOf : Option Event → ℕ → ℕ → Type 0
IsClockOf e from to = (e ≡ Some (event.Clock (pos to))) × (from ≤ to)

-- a call with these changes and this room
abbrev pub IsCallOf : Option Event → List Change → ℕ → Type 0
IsCallOf e changes room = (pid : ℕ) × (fd : ℕ) × (e ≡ Some (event.Kevent pid fd changes room))

abbrev pub IsSaidBy : Option Event → What → Type 0
IsSaidBy e (what.Closed pid number) = Unit {0}
IsSaidBy e (what.Told target hint) = Unit {0}
IsSaidBy e (what.Clocked from to) = IsClockOf e from to
IsSaidBy e (what.Called kqueue) = (changes : List Change) × (room : ℕ) × IsCallOf e changes room

abbrev pub IsRecorded : Traced → Item → Type 0
IsRecorded t i = IsSaidBy (event_at t i.place) i.what

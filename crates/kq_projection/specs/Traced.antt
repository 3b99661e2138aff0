-- A trace as far as it was gone through: the version of its format and its events, and what its definitions say, which
-- keep the records of each object.
use Rattle.std.specs.Prelude.{ℕ, zero, suc, List, ◌∷◌, [], ◌++◌, map, slice_get, Option, None}
use Rattle.std.specs.List.{Contains}
use Rattle.kq_model.specs.declared.event.Event.{Event}
use Rattle.kq_model.specs.declared.row.Row.{Row}
use Rattle.kq_model.specs.declared.trace.Trace.{Trace}
use Rattle.kq_model.specs.Births.{Birth}
use Rattle.kq_model.specs.Moment.{Moment}
use Rattle.kq_model.specs.Moments.{world_after}
use Rattle.kq_model.specs.Objects as objects
use Rattle.kq_model.specs.Objects.{counted}
use Rattle.kq_model.specs.Projection.{history, kqueues, moments, plain_rows, plans}
use Rattle.kq_model.specs.Views.{Views}
use Rattle.kq_model.specs.World.{World, empty_world}

pub record Traced : Type 0 where
  pub version : ℕ
  pub events : List Event

abbrev pub traced : Trace → Traced
traced t = record { version = t.version; events = t.events }

-- one record more
abbrev pub longer : Traced → Event → Traced
longer t e = record { version = t.version; events = t.events ++ e ∷ [] }

-- the event of the record at a place, of which the first is 1
unfoldable pub event_at : Traced → ℕ → Option Event
event_at t zero = None
event_at t (suc before) = slice_get t.events before

abbrev pub births_of : Traced → List Birth
births_of t = kqueues objects.listed t.version t.events

abbrev pub moments_of : Traced → List Moment
moments_of t = moments objects.listed t.version t.events

abbrev pub plain_rows_of : Traced → List Row
plain_rows_of t = plain_rows objects.listed t.version t.events

abbrev pub places_of : Traced → List ℕ
places_of t = map (λ (b : Birth). b.place) (births_of t)

-- a kqueue was made at this place
abbrev pub IsBorn : ℕ → Traced → Type 0
IsBorn place t = Contains (places_of t) place

-- what kqueues see of the world after a place
abbrev pub seen_at : Traced → ℕ → Views
seen_at t place = history objects.listed t.version t.events place

-- the world after all its records, as the code keeps it: of each object what its records come to
abbrev pub world_at_end : Traced → World counted
world_at_end t = world_after 1 (empty_world counted) (plans counted t.version t.events)

-- A kqueue that goes on alone, from one item of its private list to the next.
use Rattle.std.specs.Prelude.{ℕ, ◌==◌, List, [], ◌∷◌, ◌++◌, Option, Some, if◌then◌else◌}
use Rattle.kq_model.specs.declared.event.Event.{Event}
use Rattle.kq_model.specs.declared.event.Event.TheVariants as event
use Rattle.kq_model.specs.declared.row.Row.{Row}
use Rattle.kq_model.specs.Call.{call}
use Rattle.kq_model.specs.Caller.{Caller}
use Rattle.kq_model.specs.Clock.{clocked}
use Rattle.kq_model.specs.Close.{closed}
use Rattle.kq_model.specs.Following.{followed}
use Rattle.kq_model.specs.Hints.{notified}
use Rattle.kq_model.specs.Kqueue.{empty_kqueue}
use Rattle.kq_model.specs.System.{row_of}
use Rattle.kq_model.specs.Tallied.{Called, Kqueue}
use Rattle.kq_model.specs.Targets.{Posted}
use Rattle.kq_projection.specs.declared.history.item.Item.{Item}
use Rattle.kq_projection.specs.declared.history.item.What.{What}
use Rattle.kq_projection.specs.declared.history.item.What.TheVariants as what
use Rattle.kq_projection.specs.Traced.{Traced, event_at, seen_at}

pub record LoneKqueue : Type 0 where
  -- the trace that its items are of
  pub trace : Traced
  pub owner : ℕ
  -- that of the last item
  pub place : ℕ
  -- the hints that came there, which are heard together
  pub told : List Posted
  pub kq : Kqueue
  pub rows : List Row

-- a kqueue of this process, before the first record
abbrev pub unborn : Traced → ℕ → LoneKqueue
unborn t owner = record { trace = t; owner = owner; place = 0; told = []; kq = empty_kqueue; rows = [] }

-- the hints that came at a place are heard, in the world after their record, and the children that are followed come
abbrev pub heard_in : Traced → ℕ → List Posted → Kqueue → Kqueue
heard_in t place told kq = followed t.version told (notified (seen_at t place) told kq)

abbrev pub heard : LoneKqueue → LoneKqueue
heard a = record a { told = []; kq = heard_in a.trace a.place a.told a.kq }

-- where an item of this place comes next, those of another place are heard
unfoldable pub arrived : ℕ → LoneKqueue → LoneKqueue
arrived place a = if place == a.place then a else record (heard a) { place = place }

abbrev pub caller_of : LoneKqueue → Caller
caller_of a = record { views = seen_at a.trace a.place; owner = a.owner; version = a.trace.version }

abbrev pub answered : Called → LoneKqueue → LoneKqueue
answered r a = record a { kq = r.kq; rows = a.rows ++ row_of a.place r.reply }

-- the call that a record is
unfoldable pub called : Option Event → LoneKqueue → LoneKqueue
called (Some (event.Kevent pid fd changes room)) a = answered (call (caller_of a) room changes a.kq) a
called _ a = a

-- what an item of this place makes of it
unfoldable pub gone_on : What → LoneKqueue → LoneKqueue
gone_on (what.Closed pid number) a =
    record a { kq = closed a.owner (record { pid = pid; number = number } ∷ []) a.kq }
gone_on (what.Told target hint) a = record a { told = a.told ++ (target, hint) ∷ [] }
gone_on (what.Clocked from to) a =
    record (heard a) { kq = clocked (Some (record { from = from; to = to })) (heard a).kq }
gone_on (what.Called kqueue) a = called (event_at a.trace a.place) (heard a)

unfoldable pub after_item : Item → LoneKqueue → LoneKqueue
after_item i a = gone_on i.what (arrived i.place a)

unfoldable pub after_items : List Item → LoneKqueue → LoneKqueue
after_items [] a = a
after_items (i ∷ is) a = after_items is (after_item i a)

-- The replies of the fold of a trace, one for each event.
use Rattle.std.specs.Prelude.{ℕ, ◌+◌, List, [], ◌∷◌, ◌++◌}
use Rattle.kq_model.specs.declared.event.Event.{Event}
use Rattle.kq_model.specs.declared.reply.Reply.{Reply}
use Rattle.kq_model.specs.declared.row.Row.{Row}
use Rattle.kq_model.specs.Hearing.{Hearing, listed}
use Rattle.kq_model.specs.Objects as objects
use Rattle.kq_model.specs.Objects.{Keeping}
use Rattle.kq_model.specs.System.{System, empty_system, row_of, step}

module _ {S A B C D : Type 0} {h : Hearing S} {k : Keeping A B C D} where
  -- from a place and a system on
  unfoldable pub replies_after : ℕ → System h k → List Event → List Reply
  replies_after place s [] = []
  replies_after place s (e ∷ es) = (step place e s).reply ∷ replies_after (place + 1) (step place e s).system es

-- however what was heard and the objects are kept
unfoldable pub replies_by : {S A B C D : Type 0} (h : Hearing S) (k : Keeping A B C D) → ℕ → List Event
    → List Reply
replies_by h k version events = replies_after 1 (empty_system {h = h} {k = k} version) events

unfoldable pub replies : ℕ → List Event → List Reply
replies version events = replies_by listed objects.listed version events

-- the rows of replies, of which the first is that of the event at this place
unfoldable pub rows_of : ℕ → List Reply → List Row
rows_of place [] = []
rows_of place (r ∷ rs) = row_of place r ++ rows_of (place + 1) rs

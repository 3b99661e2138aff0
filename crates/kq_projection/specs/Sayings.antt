-- What a possible record says of itself: a kqueue that it makes, its call, the step of the clock. Other records say
-- none of these.
use Rattle.std.specs.Prelude.{◌≡◌, ℕ, ℤ, pos, negsuc, List, Option, Some, None}
use Rattle.kq_model.specs.declared.change.Change.{Change}
use Rattle.kq_model.specs.declared.event.Event.{Event}
use Rattle.kq_model.specs.declared.event.Event.TheVariants as event
use Rattle.kq_model.specs.declared.object.Named.{Named}
use Rattle.kq_model.specs.declared.object.Named.TheVariants as named
use Rattle.kq_model.specs.Clock.{Span}
use Rattle.kq_model.specs.Close.{Pair}
use Rattle.kq_model.specs.Objects.{counted}
use Rattle.kq_model.specs.World.{World, Call, Plan, Planned, Impossible, Possible, named_by}

unfoldable pub born_of : Event → Option Pair
born_of (event.Kqueue pid fd) = Some (record { pid = pid; number = fd })
born_of _ = None

unfoldable pub call_on : List Change → ℕ → Option Named → Option Call
call_on changes room (Some (named.Kqueue place)) = Some (record { kqueue = place; changes = changes; room = room })
call_on changes room _ = None

unfoldable pub call_of : Event → World counted → Option Call
call_of (event.Kevent pid fd changes room) w = call_on changes room (named_by pid fd w)
call_of _ w = None

-- the same, where the kqueue that is called is known
unfoldable pub call_by : Event → Option ℕ → Option Call
call_by (event.Kevent pid fd changes room) (Some kqueue) =
    Some (record { kqueue = kqueue; changes = changes; room = room })
call_by _ _ = None

unfoldable pub kqueue_named : Option Named → Option ℕ
kqueue_named (Some (named.Kqueue place)) = Some place
kqueue_named _ = None

-- which kqueue a record calls, if it is possible
unfoldable pub kqueue_of : Event → World counted → Option ℕ
kqueue_of (event.Kevent pid fd changes room) w = kqueue_named (named_by pid fd w)
kqueue_of _ w = None

unfoldable pub span_to : ℤ → ℕ → Option Span
span_to (pos moment) from = Some (record { from = from; to = moment })
span_to (negsuc n) from = None

-- from the clock before the record
unfoldable pub clock_of : Event → ℕ → Option Span
clock_of (event.Clock ns) from = span_to ns from
clock_of _ from = None

-- this is what the plan says, and no more
pub record Says (born : Option Pair) (call : Option Call) (clock : Option Span) (p : Plan) : Type 0 where
  pub born_is : p.born ≡ born
  pub call_is : p.call ≡ call
  pub clock_is : p.clock ≡ clock

abbrev pub SaysBy : Option Pair → Option Call → Option Span → Planned → Type 0
SaysBy born call clock (Impossible why) = Unit {0}
SaysBy born call clock (Possible p) = Says born call clock p

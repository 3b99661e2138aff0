-- The private list of a kqueue: of each possible record what concerns this kqueue alone. These are its calls,
-- the closes of numbers that it names, the hints for targets that it names, and the steps of the clock if it
-- has timers. Where it names a process, the hints for those that descend from it are among them.
use Rattle.std.specs.Prelude.{ℕ, ◌==◌, Bool, true, false, ◌&&◌, List, [], map, filter, Option, Some, None}
use Rattle.std.specs.Prelude.{if◌then◌else◌}
use Rattle.kq_model.specs.Clock.{Span}
use Rattle.kq_model.specs.Close.{Pair}
use Rattle.kq_model.specs.Moment.{Moment}
use Rattle.kq_model.specs.References.{Names, names_in, references, forks_at}
use Rattle.kq_model.specs.Targets.{Posted}
use Rattle.kq_model.specs.World.{Call}

-- what the record of a place has for one kqueue, each kind of item in the record's order
pub record Concern : Type 0 where
  pub place : ℕ
  pub closed : List Pair
  pub hints : List Posted
  pub clock : Option Span
  pub call : Option Call

unfoldable pub own_call : ℕ → Option Call → Option Call
own_call kqueue None = None
own_call kqueue (Some c) = if c.kqueue == kqueue then Some c else None

abbrev pub own_closed : ℕ → Names → List Pair → List Pair
own_closed owner ns pairs = filter (λ (p : Pair). (p.pid == owner) && ns.number p.number) pairs

abbrev pub own_hints : Names → List Posted → List Posted
own_hints ns posted = filter (λ (p : Posted). ns.target p.0) posted

abbrev pub own_clock : Names → Option Span → Option Span
own_clock ns span = if ns.timer then span else None

abbrev pub concern_of : ℕ → ℕ → Names → Moment → Concern
concern_of kqueue owner ns m = record {
  place = m.place;
  closed = own_closed owner ns m.closed;
  hints = own_hints ns m.hints;
  clock = own_clock ns m.clock;
  call = own_call kqueue m.call;
}

-- there is something for the kqueue
unfoldable pub has_item : List Pair → List Posted → Option Span → Option Call → Bool
has_item [] [] None None = false
has_item _ _ _ _ = true

abbrev pub concerns : Concern → Bool
concerns c = has_item c.closed c.hints c.clock c.call

-- by rising place; the names are those of the whole trace
abbrev pub private_by : ℕ → ℕ → Names → List Moment → List Concern
private_by kqueue owner ns ms = filter concerns (map (concern_of kqueue owner ns) ms)

abbrev pub private_list : ℕ → ℕ → List Moment → List Concern
private_list kqueue owner ms =
    private_by kqueue owner (names_in (forks_at ms) (references kqueue owner ms)) ms

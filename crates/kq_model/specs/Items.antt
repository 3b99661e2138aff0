-- A private list item by item: all that a trace says to kqueues is one list, of which a kqueue's items are some.
use Rattle.std.specs.Prelude.{ℕ, ◌==◌, Bool, ◌&&◌, List, [], ◌∷◌, ◌++◌, map, Option, Some, None}
use Rattle.std.specs.List.{flat_map}
use Rattle.kq_model.specs.Clock.{Span}
use Rattle.kq_model.specs.Close.{Pair}
use Rattle.kq_model.specs.Moment.{Moment}
use Rattle.kq_model.specs.PrivateList.{Concern}
use Rattle.kq_model.specs.References.{Names}
use Rattle.kq_model.specs.Targets.{Posted}
use Rattle.kq_model.specs.World.{Call}

pub data What : Type 0 where
  Closed : Pair → What
  Told : Posted → What
  Clocked : Span → What
  Called : Call → What

pub record Item : Type 0 where
  pub place : ℕ
  pub what : What

unfoldable pub clock_whats : Option Span → List What
clock_whats None = []
clock_whats (Some span) = Clocked span ∷ []

unfoldable pub call_whats : Option Call → List What
call_whats None = []
call_whats (Some c) = Called c ∷ []

-- of one place: closes, then hints, then the clock, then the call
abbrev pub whats : List Pair → List Posted → Option Span → Option Call → List What
whats closed hints clock call = map Closed closed ++ (map Told hints ++ (clock_whats clock ++ call_whats call))

abbrev pub items_at : ℕ → List What → List Item
items_at place ws = map (λ (w : What). record { place = place; what = w }) ws

abbrev pub items_in : Moment → List Item
items_in m = items_at m.place (whats m.closed m.hints m.clock m.call)

-- all that the moments say
abbrev pub all_items : List Moment → List Item
all_items ms = flat_map items_in ms

abbrev pub items_of : Concern → List Item
items_of c = items_at c.place (whats c.closed c.hints c.clock c.call)

-- it concerns the kqueue, whose changes name these
unfoldable pub is_own : ℕ → ℕ → Names → What → Bool
is_own kqueue owner ns (Closed p) = (p.pid == owner) && ns.number p.number
is_own kqueue owner ns (Told p) = ns.target p.0
is_own kqueue owner ns (Clocked span) = ns.timer
is_own kqueue owner ns (Called c) = c.kqueue == kqueue

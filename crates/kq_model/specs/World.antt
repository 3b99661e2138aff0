-- The world: the processes and their descriptors, the objects that these name, and the clock. A record's
-- effect on it is a plan, which one function carries out; an impossible record changes nothing.
use Rattle.std.specs.Prelude.{ℕ, List, [], Option, Some, None}
use Rattle.kq_model.specs.declared.change.Change.{Change}
use Rattle.kq_model.specs.declared.doing.Doing.{Doing}
use Rattle.kq_model.specs.declared.object.Named.{Named}
use Rattle.kq_model.specs.declared.object.Named.TheVariants as named
use Rattle.kq_model.specs.declared.object.Target.{Target}
use Rattle.kq_model.specs.declared.object.Target.TheVariants as target
use Rattle.kq_model.specs.declared.object.View.{View}
use Rattle.kq_model.specs.declared.object.View.TheVariants as view
use Rattle.kq_model.specs.declared.why.Why.{Why}
use Rattle.kq_model.specs.Clock.{Span}
use Rattle.kq_model.specs.Close.{Pair}
use Rattle.kq_model.specs.Descriptors.{Descriptor, named_among, with_descriptor, with_descriptors, without_closed}
use Rattle.kq_model.specs.Objects.{Keeping, Objects, counted, no_objects, quantities, all_done, view_of}
use Rattle.kq_model.specs.Processes.{Process, Start, Exit, Disposition, process_of, with_process, without_process}
use Rattle.kq_model.specs.Processes.{with_disposition}
use Rattle.kq_model.specs.Targets.{Posted}
use Rattle.kq_model.specs.Views.{Views}

-- ---- the world; `k` says how its objects are kept

pub record World {A B C D : Type 0} (k : Keeping A B C D) : Type 0 where
  pub processes : List Process
  -- in rising order of pid and number
  pub table : List Descriptor
  pub objects : Objects k
  -- the clock, in ns
  pub now : ℕ

abbrev pub empty_world : {A B C D : Type 0} (k : Keeping A B C D) → World k
empty_world k = record { processes = []; table = []; objects = no_objects k; now = 0 }

-- the world with the quantities of its objects, which is all that plans and views read
abbrev pub seen_world : {A B C D : Type 0} {k : Keeping A B C D} → World k → World counted
seen_world w = record { processes = w.processes; table = w.table; objects = quantities w.objects; now = w.now }

-- what a descriptor of a process is
unfoldable pub named_by : ℕ → ℕ → World counted → Option Named
named_by pid number w = named_among pid number w.table

unfoldable pub process_view : Option Process → Option View
process_view None = None
process_view (Some p) = Some (view.Process p.exited)

-- a process keeps its view once it has exited; a signal and a knote's own target have none
unfoldable pub view_in : World counted → Target → Option View
view_in w (target.Process pid) = process_view (process_of pid w.processes)
view_in w target = view_of target w.objects

-- what kqueues see of the world
unfoldable pub views_of : World counted → Views
views_of w = record {
  view = λ target. view_in w target;
  descriptor = λ pid number. named_by pid number w;
  now = w.now;
}

-- ---- what a record does

-- a kevent call on the kqueue that was made at a place
pub record Call : Type 0 where
  pub kqueue : ℕ
  pub changes : List Change
  pub room : ℕ

pub record Plan : Type 0 where
  -- the descriptors that are closed, in order
  pub closed : List Pair
  -- the descriptors that are opened; no kqueue is among them
  pub opened : List Descriptor
  -- a kqueue that is made
  pub born : Option Pair
  -- what is noted of the objects, in order: descriptors that no longer name them, and then the rest
  pub doings : List Doing
  -- for the knotes of what the record touches, in order
  pub hints : List Posted
  pub call : Option Call
  -- where the clock goes on
  pub clock : Option Span
  -- a process that starts
  pub started : Option Start
  -- a process that exits
  pub ended : Option Exit
  -- a signal that a process begins to ignore, or ceases to
  pub disposed : Option Disposition

abbrev pub idle : Plan
idle = record {
  closed = [];
  opened = [];
  born = None;
  doings = [];
  hints = [];
  call = None;
  clock = None;
  started = None;
  ended = None;
  disposed = None;
}

pub data Planned : Type 0 where
  Impossible : Why → Planned
  Possible : Plan → Planned

-- ---- carrying a plan out

unfoldable pub with_kqueue : ℕ → Option Pair → List Descriptor → List Descriptor
with_kqueue place None table = table
with_kqueue place (Some p) table =
    with_descriptor (record { pid = p.pid; number = p.number; named = named.Kqueue place }) table

unfoldable pub clock_after : Option Span → ℕ → ℕ
clock_after None now = now
clock_after (Some span) now = span.to

unfoldable pub carried_out : {A B C D : Type 0} {k : Keeping A B C D} → ℕ → Plan → World k → World k
carried_out place p w = record {
  processes = with_process p.started (without_process p.ended (with_disposition p.disposed w.processes));
  table = with_kqueue place p.born (with_descriptors p.opened (without_closed p.closed w.table));
  objects = all_done p.doings w.objects;
  now = clock_after p.clock w.now;
}

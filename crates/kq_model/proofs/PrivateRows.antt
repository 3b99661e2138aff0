-- Private lists by example: a duplicate over a watched number, in two processes; who has the steps of the clock;
-- and what a change names.
use Rattle.std.specs.Prelude.{◌≡◌, ℕ, ◌+◌, pos, List, [], ◌∷◌, Option, Some, None}
use Rattle.std.proofs.Common.{refl}
use Rattle.kq_model.specs.declared.act.Act.TheVariants as act
use Rattle.kq_model.specs.declared.change.Change.{Change}
use Rattle.kq_model.specs.declared.filter.Filter.{Filter}
use Rattle.kq_model.specs.declared.filter.Filter.TheVariants.{Read, Write, Vnode, Timer, Signal}
use Rattle.kq_model.specs.declared.mode.Mode.TheVariants as mode
use Rattle.kq_model.specs.declared.object.Hint.TheVariants.{Readable, Writable, Delivered}
use Rattle.kq_model.specs.declared.object.Target.{Target}
use Rattle.kq_model.specs.declared.object.Target.TheVariants as target
use Rattle.kq_model.specs.Bits.{add, delete}
use Rattle.kq_model.specs.Clock.{Span}
use Rattle.kq_model.specs.Close.{Pair}
use Rattle.kq_model.specs.DescriptorPlans.{plan_kqueue, plan_kevent, plan_dup}
use Rattle.kq_model.specs.Moment.{Moment}
use Rattle.kq_model.specs.Moments.{world_by, moments_from}
use Rattle.kq_model.specs.ObjectRecordPlans.{plan_act, plan_at, plan_socket, plan_open}
use Rattle.kq_model.specs.Objects.{listed}
use Rattle.kq_model.specs.PrivateList.{Concern, private_list}
use Rattle.kq_model.specs.ProcessPlans.{plan_proc, plan_fork, plan_sig, plan_clock}
use Rattle.kq_model.specs.References.{named_target}
use Rattle.kq_model.specs.Targets.{Posted}
use Rattle.kq_model.specs.World.{World, empty_world, seen_world, views_of, Planned}
use Rattle.kq_model.proofs.ProjectionOpened.{projection_opened}
use Rattle.kq_model.proofs.WorldPlayed.{Planning, world_after}

-- ---- records, for short

abbrev proc : ℕ → Planning
proc pid place w = plan_proc pid w

abbrev fork : ℕ → ℕ → Planning
fork pid child place w = plan_fork pid child w

abbrev kqueue : ℕ → ℕ → Planning
kqueue pid fd place w = plan_kqueue pid fd w

abbrev kevent : ℕ → ℕ → List Change → ℕ → Planning
kevent pid fd changes room place w = plan_kevent pid fd changes room w

abbrev socket : ℕ → Planning
socket fd place w = plan_socket place 1 fd 100 100 w

abbrev connect : ℕ → Planning
connect fd place w = plan_at place 1 fd (λ on. act.Connect on) w

abbrev receive : ℕ → ℕ → Planning
receive fd bytes place w = plan_at place 1 fd (λ on. act.Receive on bytes) w

abbrev dup : ℕ → ℕ → Planning
dup fd to place w = plan_dup 1 fd to w

abbrev sig : ℕ → ℕ → Planning
sig pid signal place w = plan_sig pid signal w

abbrev clock : ℕ → Planning
clock moment place w = plan_clock moment w

abbrev file : ℕ → ℕ → Planning
file number size place w = plan_act place [] (act.File number (pos size)) w

abbrev open_file : ℕ → ℕ → Planning
open_file fd number place w = plan_open place 1 fd number mode.Read w

abbrev change : Filter → ℕ → ℕ → Change
change filter ident flags = record { ident = ident; filter = filter; flags = record { 0 = flags }; fflags = 0; datum = pos 0; udata = 0 }

-- ---- the moments of a list of records

abbrev plans_of : ℕ → World listed → List Planning → List Planned
plans_of place w [] = []
plans_of place w (r ∷ rs) = r place (seen_world w) ∷ plans_of (place + 1) (world_by place (r place (seen_world w)) w) rs

abbrev moments_of : List Planning → List Moment
moments_of rs = moments_from 1 1 (empty_world listed) (plans_of 1 (empty_world listed) rs)

-- ---- what concerns a kqueue at a place

abbrev with_hints : ℕ → List Posted → Concern
with_hints place posted = record { place = place; closed = []; hints = posted; clock = None; call = None }

abbrev with_close : ℕ → List Pair → Concern
with_close place pairs = record { place = place; closed = pairs; hints = []; clock = None; call = None }

abbrev with_clock : ℕ → Span → Concern
with_clock place span = record { place = place; closed = []; hints = []; clock = Some span; call = None }

abbrev with_call : ℕ → ℕ → List Change → ℕ → Concern
with_call place kqueue changes room = record {
  place = place;
  closed = [];
  hints = [];
  clock = None;
  call = Some (record { kqueue = kqueue; changes = changes; room = room });
}

-- ---- a duplicate over a watched number

-- process 2 has number 3 from its parent, and keeps it where the parent's is closed by dup at place 13
abbrev dup_over : List Planning
dup_over =
    proc 1 ∷ kqueue 1 9 ∷ kqueue 1 10 ∷ socket 3 ∷ connect 3 ∷ socket 5 ∷ fork 1 2 ∷ kqueue 2 9
    ∷ kevent 1 9 (change Read 3 add ∷ []) 0 ∷ kevent 1 10 (change Read 3 add ∷ []) 0 ∷ kevent 2 9 (change Read 3 add ∷ []) 0
    ∷ receive 3 1 ∷ dup 5 3 ∷ kevent 1 9 [] 1 ∷ kevent 1 10 [] 1 ∷ kevent 2 9 [] 1 ∷ kevent 1 9 (change Read 3 delete ∷ []) 1 ∷ []

-- hints come before the change that names their target, and the close is that of the owner's number
pub dup_over-first : private_list 2 1 (moments_of dup_over) ≡
    with_hints 5 ((target.Socket 4, Writable) ∷ [])
    ∷ with_call 9 2 (change Read 3 add ∷ []) 0
    ∷ with_hints 12 ((target.Socket 4, Readable) ∷ [])
    ∷ with_close 13 (record { pid = 1; number = 3 } ∷ [])
    ∷ with_call 14 2 [] 1
    ∷ with_call 17 2 (change Read 3 delete ∷ []) 1 ∷ []
unfolding projection_opened
dup_over-first = refl

pub dup_over-child : private_list 8 2 (moments_of dup_over) ≡
    with_hints 5 ((target.Socket 4, Writable) ∷ [])
    ∷ with_call 11 8 (change Read 3 add ∷ []) 0
    ∷ with_hints 12 ((target.Socket 4, Readable) ∷ [])
    ∷ with_call 16 8 [] 1 ∷ []
unfolding projection_opened
dup_over-child = refl

-- ---- the clock and signals

-- the kqueue of place 2 names a TIMER, that of place 3 a signal of its owner
abbrev ticking : List Planning
ticking =
    proc 1 ∷ kqueue 1 9 ∷ kqueue 1 10 ∷ clock 5 ∷ sig 1 15 ∷ kevent 1 9 (change Timer 1 add ∷ []) 0
    ∷ kevent 1 10 (change Signal 15 add ∷ change Signal 16 add ∷ []) 0 ∷ clock 5 ∷ clock 4 ∷ sig 1 17 ∷ clock 9 ∷ []

-- also the step before the change, and the one to the same moment; a step back is impossible
pub ticking-timer : private_list 2 1 (moments_of ticking) ≡
    with_clock 4 (record { from = 0; to = 5 })
    ∷ with_call 6 2 (change Timer 1 add ∷ []) 0
    ∷ with_clock 8 (record { from = 5; to = 5 })
    ∷ with_clock 11 (record { from = 5; to = 9 }) ∷ []
unfolding projection_opened
ticking-timer = refl

pub ticking-signal : private_list 3 1 (moments_of ticking) ≡
    with_hints 5 ((target.Signal 1 15, Delivered) ∷ [])
    ∷ with_call 7 3 (change Signal 15 add ∷ change Signal 16 add ∷ []) 0 ∷ []
unfolding projection_opened
ticking-signal = refl

-- ---- what a change names

-- number 4 is an open file, number 9 a kqueue
abbrev opened_file : List Planning
opened_file = proc 1 ∷ kqueue 1 9 ∷ file 8 10 ∷ open_file 4 8 ∷ socket 5 ∷ []

abbrev named : Filter → ℕ → Option Target
named filter ident = named_target (views_of (world_after opened_file)) 1 filter ident

pub file_named : named Read 4 ≡ Some (target.Open 4)
unfolding projection_opened
file_named = refl

pub file_unwritten : named Write 4 ≡ None
unfolding projection_opened
file_unwritten = refl

pub file_itself : named Vnode 4 ≡ Some (target.File 8)
unfolding projection_opened
file_itself = refl

pub kqueue_unnamed : named Read 9 ≡ None
unfolding projection_opened
kqueue_unnamed = refl

pub unopened_unnamed : named Write 3 ≡ None
unfolding projection_opened
unopened_unnamed = refl

pub socket_written : named Write 5 ≡ Some (target.Socket 5)
unfolding projection_opened
socket_written = refl

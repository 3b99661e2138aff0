-- Processes and descriptors by example: what each record closes and whom it tells.
use Rattle.std.specs.Prelude.{◌≡◌, ℕ, ◌^◌, List, [], ◌∷◌, Some}
use Rattle.std.proofs.Common.{refl}
use Rattle.kq_model.specs.declared.act.Act.TheVariants as act
use Rattle.kq_model.specs.declared.object.Hint.TheVariants.{Readable, Writable, Note, Child}
use Rattle.kq_model.specs.declared.object.Named.TheVariants as named
use Rattle.kq_model.specs.declared.object.Target.TheVariants as target
use Rattle.kq_model.specs.declared.why.Why.TheVariants.{NoProcess, UsedPid, NoDescriptor, UsedDescriptor, WrongKind}
use Rattle.kq_model.specs.Close.{Pair}
use Rattle.kq_model.specs.DescriptorPlans.{plan_close, plan_dup, plan_kqueue}
use Rattle.kq_model.specs.ObjectRecordPlans.{plan_at, plan_pipe, plan_socket}
use Rattle.kq_model.specs.ProcessPlans.{plan_proc, plan_fork, plan_exec, plan_exit}
use Rattle.kq_model.specs.World.{named_by}
use Rattle.kq_model.proofs.WorldPlayed.{Done, Refused, Planning, outcomes, world_after, world_opened}

-- ---- records, for short

abbrev proc : ℕ → Planning
proc pid place w = plan_proc pid w

abbrev fork : ℕ → ℕ → Planning
fork pid child place w = plan_fork pid child w

abbrev exit : ℕ → ℕ → Planning
exit pid status place w = plan_exit pid status w

abbrev exec : ℕ → Planning
exec pid place w = plan_exec pid w

abbrev dup : ℕ → ℕ → ℕ → Planning
dup pid fd to place w = plan_dup pid fd to w

abbrev close : ℕ → ℕ → Planning
close pid fd place w = plan_close pid fd w

abbrev kqueue : ℕ → ℕ → Planning
kqueue pid fd place w = plan_kqueue pid fd w

abbrev pipe : ℕ → ℕ → ℕ → ℕ → Planning
pipe pid rfd wfd cap place w = plan_pipe place pid rfd wfd cap w

abbrev socket : ℕ → ℕ → Planning
socket pid fd place w = plan_socket place pid fd 100 100 w

abbrev write : ℕ → ℕ → ℕ → Planning
write pid fd bytes place w = plan_at place pid fd (λ on. act.Write on bytes) w

abbrev read : ℕ → ℕ → ℕ → Planning
read pid fd bytes place w = plan_at place pid fd (λ on. act.Read on bytes) w

abbrev pair : ℕ → ℕ → Pair
pair pid number = record { pid = pid; number = number }

-- ---- the last end of a pipe, held by a child

abbrev last_writer : List Planning
last_writer =
    proc 1 ∷ pipe 1 3 4 1000 ∷ fork 1 2 ∷ close 1 4 ∷ write 2 4 3 ∷ exit 2 0 ∷ write 1 3 1 ∷ read 1 3 3 ∷ close 1 3 ∷ []

pub last_writer_outcomes : outcomes last_writer ≡
    Done [] []
    ∷ Done [] []
    ∷ Done [] ((target.Process 1, Note (2 ^ 30)) ∷ (target.Process 1, Child 2) ∷ [])
    ∷ Done (pair 1 4 ∷ []) []
    ∷ Done [] ((target.Pipe 2, Readable) ∷ [])
    ∷ Done (pair 2 3 ∷ pair 2 4 ∷ []) ((target.Pipe 2, Readable) ∷ (target.Process 2, Note (2 ^ 31)) ∷ [])
    ∷ Refused WrongKind
    ∷ Done [] ((target.Pipe 2, Writable) ∷ [])
    ∷ Done (pair 1 3 ∷ []) ((target.Pipe 2, Writable) ∷ []) ∷ []
unfolding world_opened
last_writer_outcomes = refl

-- ---- a duplicate keeps what it names open, and a write without a reader is impossible

abbrev duplicates : List Planning
duplicates =
    proc 1 ∷ pipe 1 3 4 10 ∷ dup 1 3 5 ∷ close 1 3 ∷ write 1 4 10 ∷ dup 1 5 5 ∷ dup 1 4 5 ∷ write 1 5 0 ∷ read 1 4 0 ∷ []

pub duplicates_outcomes : outcomes duplicates ≡
    Done [] []
    ∷ Done [] []
    ∷ Done [] []
    ∷ Done (pair 1 3 ∷ []) []
    ∷ Done [] ((target.Pipe 2, Readable) ∷ [])
    ∷ Done [] []
    ∷ Done (pair 1 5 ∷ []) ((target.Pipe 2, Writable) ∷ [])
    ∷ Refused WrongKind
    ∷ Refused WrongKind ∷ []
unfolding world_opened
duplicates_outcomes = refl

-- ---- kqueues are neither inherited nor duplicated, and dup onto one closes it

abbrev kqueues : List Planning
kqueues =
    proc 1 ∷ kqueue 1 9 ∷ socket 1 3 ∷ fork 1 2 ∷ dup 1 9 9 ∷ dup 2 9 4 ∷ close 2 3 ∷ dup 1 3 9 ∷ socket 1 9 ∷ kqueue 2 3 ∷ []

pub kqueues_outcomes : outcomes kqueues ≡
    Done [] []
    ∷ Done [] []
    ∷ Done [] []
    ∷ Done [] ((target.Process 1, Note (2 ^ 30)) ∷ (target.Process 1, Child 2) ∷ [])
    ∷ Refused WrongKind
    ∷ Refused NoDescriptor
    ∷ Done (pair 2 3 ∷ []) []
    ∷ Done (pair 1 9 ∷ []) []
    ∷ Refused UsedDescriptor
    ∷ Done [] [] ∷ []
unfolding world_opened
kqueues_outcomes = refl

pub kqueues_named : named_by 1 9 (world_after kqueues) ≡ Some (named.Socket 3)
unfolding world_opened
kqueues_named = refl

-- ---- pids are used once, and a process that has exited does nothing

abbrev pids : List Planning
pids = proc 1 ∷ proc 1 ∷ fork 1 1 ∷ exit 1 7 ∷ fork 1 2 ∷ exec 1 ∷ proc 1 ∷ proc 2 ∷ exec 2 ∷ fork 2 1 ∷ []

pub pids_outcomes : outcomes pids ≡
    Done [] []
    ∷ Refused UsedPid
    ∷ Refused UsedPid
    ∷ Done [] ((target.Process 1, Note (2 ^ 31)) ∷ [])
    ∷ Refused NoProcess
    ∷ Refused NoProcess
    ∷ Refused UsedPid
    ∷ Done [] []
    ∷ Done [] ((target.Process 2, Note (2 ^ 29)) ∷ [])
    ∷ Refused UsedPid ∷ []
unfolding world_opened
pids_outcomes = refl

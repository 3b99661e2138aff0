-- Children that are followed, by example: the whole fold, and kqueue by kqueue.
use Rattle.std.specs.Prelude.{◌≡◌, ℕ, ◌+◌, pos, List, [], ◌∷◌, Some, None}
use Rattle.std.proofs.Common.{refl}
use Rattle.kq_model.specs.declared.change.Change.{Change}
use Rattle.kq_model.specs.declared.errno.Errno.TheVariants.{EINVAL}
use Rattle.kq_model.specs.declared.event.Event.{Event}
use Rattle.kq_model.specs.declared.event.Event.TheVariants.{Proc, Fork, Exit}
use Rattle.kq_model.specs.declared.filter.Filter.TheVariants as by
use Rattle.kq_model.specs.declared.kevent.Kevent as events
use Rattle.kq_model.specs.declared.object.Hint.TheVariants.{Note, Child}
use Rattle.kq_model.specs.declared.object.Target.TheVariants.{Process}
use Rattle.kq_model.specs.declared.reply.Reply.TheVariants.{Events, Failed}
use Rattle.kq_model.specs.declared.row.Row.{Row}
use Rattle.kq_model.specs.Bits.{add, delete, oneshot, clear, eof, error, exit_note, fork_note, track_note, child_note}
use Rattle.kq_model.specs.Births.{Birth}
use Rattle.kq_model.specs.Hearing.{listed}
use Rattle.kq_model.specs.Objects as objects
use Rattle.kq_model.specs.PrivateList.{Concern}
use Rattle.kq_model.specs.Projection.{private_of, replayed}
use Rattle.kq_model.specs.System.{rows}
use Rattle.kq_model.specs.Targets.{Posted}
use Rattle.kq_model.proofs.Builders.{kevent, opened}
use Rattle.kq_model.proofs.ProjectionOpened.{projection_opened}

abbrev change : ℕ → ℕ → ℕ → Change
change pid flags fflags = record { ident = pid; filter = by.Proc; flags = record { 0 = flags }; fflags = fflags; datum = pos 0; udata = 0 }

abbrev event : ℕ → ℕ → ℕ → ℕ → events.Kevent
event pid flags fflags told = record { ident = pid; filter = by.Proc; flags = record { 0 = flags }; fflags = fflags; datum = pos told; udata = 0 }

abbrev row : ℕ → List events.Kevent → Row
row place returned = record { at = place; reply = Events returned }

-- ---- the exit of a child that is followed, before its notice was told

abbrev child_exits : List Event
child_exits = opened (
    Proc 2 ∷ kevent (change 2 add (exit_note + track_note) ∷ []) 0 ∷ Fork 2 3 ∷ Exit 3 256 ∷ kevent [] 4 ∷ kevent [] 4
    ∷ kevent (change 3 delete 0 ∷ []) 1 ∷ Exit 2 0 ∷ kevent [] 4 ∷ [])

-- the notice deletes no knote, also where it is ONESHOT
abbrev child_exits_given : List Row
child_exits_given =
    row 4 []
    ∷ row 7 (event 3 (oneshot + clear) child_note 2 ∷ [])
    ∷ row 8 (event 3 (oneshot + clear + eof) exit_note 256 ∷ [])
    ∷ row 9 (event 3 error 0 2 ∷ [])
    ∷ row 11 (event 2 (oneshot + clear + eof) exit_note 0 ∷ []) ∷ []

pub child_exits_rows : rows 2 child_exits ≡ child_exits_given
unfolding projection_opened
child_exits_rows = refl

-- version 1 refuses NOTE_TRACK
pub untracked : rows 1 (opened (Proc 2 ∷ kevent (change 2 add (exit_note + track_note) ∷ []) 0 ∷ [])) ≡ record { at = 4; reply = Failed EINVAL } ∷ []
unfolding projection_opened
untracked = refl

-- ---- a grandchild

abbrev two_forks : List Event
two_forks = opened (
    Proc 2 ∷ kevent (change 2 add (fork_note + track_note) ∷ []) 0 ∷ Fork 2 3 ∷ Fork 3 4 ∷ kevent [] 4 ∷ kevent [] 4 ∷ [])

abbrev two_forks_given : List Row
two_forks_given =
    row 4 []
    ∷ row 7 (event 2 clear fork_note 0 ∷ event 3 clear child_note 2 ∷ event 4 clear child_note 3 ∷ [])
    ∷ row 8 (event 3 clear fork_note 0 ∷ []) ∷ []

pub two_forks_rows : rows 2 two_forks ≡ two_forks_given
unfolding projection_opened
two_forks_rows = refl

-- ---- what concerns the kqueue

abbrev birth : Birth
birth = record { place = 2; owner = 1; number = 9 }

abbrev called : ℕ → List Change → ℕ → Concern
called place changes room = record { place = place; closed = []; hints = []; clock = None; call = Some (record { kqueue = 2; changes = changes; room = room }) }

abbrev told : ℕ → List Posted → Concern
told place posted = record { place = place; closed = []; hints = posted; clock = None; call = None }

-- also the hints for processes that descend from those that it names
pub two_forks_private : private_of objects.listed 2 two_forks birth ≡
    called 4 (change 2 add (fork_note + track_note) ∷ []) 0
    ∷ told 5 ((Process 2, Note fork_note) ∷ (Process 2, Child 3) ∷ [])
    ∷ told 6 ((Process 3, Note fork_note) ∷ (Process 3, Child 4) ∷ [])
    ∷ called 7 [] 4 ∷ called 8 [] 4 ∷ []
unfolding projection_opened
two_forks_private = refl

-- in version 1 those for the processes that it names alone
pub two_forks_private_before : private_of objects.listed 1 two_forks birth ≡
    called 4 (change 2 add (fork_note + track_note) ∷ []) 0
    ∷ told 5 ((Process 2, Note fork_note) ∷ (Process 2, Child 3) ∷ [])
    ∷ called 7 [] 4 ∷ called 8 [] 4 ∷ []
unfolding projection_opened
two_forks_private_before = refl

pub two_forks_alone : replayed objects.listed 2 listed two_forks birth ≡ two_forks_given
unfolding projection_opened
two_forks_alone = refl

pub child_exits_alone : replayed objects.listed 2 listed child_exits birth ≡ child_exits_given
unfolding projection_opened
child_exits_alone = refl

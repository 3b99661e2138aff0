-- Kqueues whose order was left open. A call that has no answer, and left some of the kevents that waited, could have
-- returned others: what stands behind it is what one choice left, and another choice may leave something else.
use Rattle.std.specs.Prelude.{ℕ, ◌==◌, ◌&&◌, nat_eq, nat_lt, Bool, false, List, [], length, Option, Some, None}
use Rattle.std.specs.Prelude.{if◌then◌else◌}
use Rattle.std.specs.List.{list_any}
use Rattle.indexmap.specs.IndexSet.{insert_key}
use Rattle.kq_answers.specs.declared.answer.Given.{Given}
use Rattle.kq_model.specs.declared.event.Event.{Event}
use Rattle.kq_model.specs.declared.event.Event.TheVariants.{Kevent as KeventRecord}
use Rattle.kq_model.specs.declared.reply.Reply.{Reply}
use Rattle.kq_model.specs.Report.{events_in}
use Rattle.kq_model.specs.System.{step}
use Rattle.kq_model.specs.Tallied.{Live, System}
use Rattle.kq_system.specs.Beginning.{begun, live_named, place_named}

-- ---- what a call leaves open

-- there was room, it is full, and more waited
abbrev pub leaves_some : ℕ → ℕ → ℕ → Bool
leaves_some room waiting returned = nat_lt 0 room && (returned == room && nat_lt room waiting)

-- how many keys wait in a kqueue, if there is one
abbrev pub waiting_of : Option Live → ℕ
waiting_of None = 0
waiting_of (Some l) = length l.kq.queue

-- the kqueue whose events are read in the order of its queue, where another order could have given others
abbrev pub opened_in : ℕ → ℕ → ℕ → ℕ → System → Option ℕ
opened_in place pid fd room s =
    if leaves_some room (waiting_of (live_named pid fd s)) (events_in (step place (KeventRecord pid fd [] room) s).reply)
    then place_named pid fd s
    else None

-- an answer says which of them were returned
abbrev pub opened_by : ℕ → ℕ → ℕ → ℕ → Option Given → System → Option ℕ
opened_by place pid fd room None s = opened_in place pid fd room s
opened_by place pid fd room (Some given) s = None

-- the same of a call that began, by its reply, if it has one already
abbrev pub opened_behind : ℕ → ℕ → ℕ → ℕ → Option Given → Option Reply → System → Option ℕ
opened_behind place pid fd room given (Some reply) s = None
opened_behind place pid fd room given None s = opened_by place pid fd room given s

-- the kqueue whose order a record leaves open, by the place at which it was made
abbrev pub opened : ℕ → Event → Option Given → System → Option ℕ
opened place (KeventRecord pid fd changes room) given s =
    opened_behind place pid fd room given (begun place (KeventRecord pid fd changes room) s).answer
    (begun place (KeventRecord pid fd changes room) s).system
opened place _ given s = None

-- ---- those that are open, by their places, each once

-- the kqueue that a record calls
abbrev pub kqueue_of : Event → System → Option ℕ
kqueue_of (KeventRecord pid fd changes room) s = place_named pid fd s
kqueue_of _ s = None

abbrev pub is_open : Option ℕ → List ℕ → Bool
is_open None unsure = false
is_open (Some place) unsure = list_any (nat_eq place) unsure

-- It stays open as long as it is there: whatever it is told later it was told in a state that is not known.
abbrev pub open_with : Option ℕ → List ℕ → List ℕ
open_with None unsure = unsure
open_with (Some place) unsure = insert_key nat_eq unsure place

-- One change of a change list (kqueue(2)): whether it is refused, and what it does to the kqueue.
use Rattle.std.specs.Prelude.{Bool, true, false, ◌&&◌, List, [], ◌∷◌, ◌++◌, Option, Some, None}
use Rattle.std.specs.Prelude.{if◌then◌else◌}
use Rattle.kq_model.specs.declared.change.Change.{Change}
use Rattle.kq_model.specs.declared.errno.Errno.{Errno}
use Rattle.kq_model.specs.declared.errno.Errno.TheVariants.{ENOENT, EBADF, EINVAL}
use Rattle.kq_model.specs.declared.key.Key.{Key}
use Rattle.kq_model.specs.Bits.{asks, add, delete}
use Rattle.kq_model.specs.Caller.{Caller}
use Rattle.kq_model.specs.Hearing.{Hearing}
use Rattle.kq_model.specs.Knote.{Knote, find_knote, with_knote, without_knote, without_key, queued, is_timer}
use Rattle.kq_model.specs.Kqueue.{Kqueue}
use Rattle.kq_model.specs.ChangedKnote.{key_of, made, modified}
use Rattle.kq_model.specs.Refusals.{is_malformed, is_unopened, own_refusal}

-- what a change is to do
pub data Decision {S : Type 0} (h : Hearing S) : Type 0 where
  Refuse : Errno → Decision h
  Remove : Decision h
  Make : Decision h
  Modify : Knote h → Decision h

pub record Registered {S : Type 0} (h : Hearing S) : Type 0 where
  pub kq : Kqueue h
  pub error : Option Errno

-- a TIMER that is added again starts anew
abbrev pub is_restart : Change → Bool
is_restart c = is_timer c.filter && asks c.flags add

-- such a TIMER leaves the queue first, and may come back to it
abbrev pub without_restarted : Change → List Key → List Key
without_restarted c queue = if is_restart c then without_key (key_of c) queue else queue

module _ {S : Type 0} {h : Hearing S} where
  -- ---- the decision, with the refusals in their order (the order is this project's choice)

  unfoldable pub unless_refused : Option Errno → Decision h → Decision h
  unless_refused None decision = decision
  unless_refused (Some e) decision = Refuse e

  -- without a knote only ADD does something; with one, DELETE removes it
  unfoldable pub decided : Caller → Option (Knote h) → Change → Decision h
  decided caller None c =
      if asks c.flags add then unless_refused (own_refusal c.filter caller true c) Make else Refuse ENOENT
  decided caller (Some k) c =
      if asks c.flags delete then Remove
      else if asks c.flags add then unless_refused (own_refusal c.filter caller false c) (Modify k)
      else Modify k

  unfoldable pub decision : Caller → Option (Knote h) → Change → Decision h
  decision caller present c =
      if is_malformed c then Refuse EINVAL
      else if is_unopened caller c then Refuse EBADF
      else decided caller present c

  -- ---- the kqueue

  -- a disabled knote leaves the queue; an enabled one that is active is in it, at the back if it was not
  unfoldable pub queue_for : Knote h → List Key → List Key
  queue_for k queue = if k.enabled then (if k.active then queued k.key queue else queue) else without_key k.key queue

  -- one knote more, the last in order of registration
  abbrev pub with_made : Knote h → Kqueue h → Kqueue h
  with_made k kq = record { knotes = kq.knotes ++ k ∷ []; queue = queue_for k kq.queue }

  -- without the knote of a key
  abbrev pub with_removed : Key → Kqueue h → Kqueue h
  with_removed key kq = record { knotes = without_knote key kq.knotes; queue = without_key key kq.queue }

  -- a knote that the change modified, in the place of the one of its key
  abbrev pub with_modified : Change → Knote h → Kqueue h → Kqueue h
  with_modified c k kq = record { knotes = with_knote k kq.knotes; queue = queue_for k (without_restarted c kq.queue) }

  unfoldable pub carried_out : Caller → Change → Kqueue h → Decision h → Registered h
  carried_out caller c kq (Refuse e) = record { kq = kq; error = Some e }
  carried_out caller c kq Remove = record { kq = with_removed (key_of c) kq; error = None }
  carried_out caller c kq Make = record { kq = with_made (made caller c) kq; error = None }
  carried_out caller c kq (Modify k) = record { kq = with_modified c (modified caller c k) kq; error = None }

  unfoldable pub register : Caller → Change → Kqueue h → Registered h
  register caller c kq = carried_out caller c kq (decision caller (find_knote (key_of c) kq.knotes) c)

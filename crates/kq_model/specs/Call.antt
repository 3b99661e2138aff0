-- One kevent call (kqueue(2)): all changes in order, with an entry for each that fails or asks for a
-- receipt; then, where no entry was placed and no change ended the call, the retrieval.
use Rattle.std.specs.Prelude.{ℕ, pos, Bool, ◌||◌, List, [], ◌∷◌, ◌++◌, length, nat_lt, Option}
use Rattle.std.specs.Prelude.{Some, None}
use Rattle.std.specs.Prelude.{if◌then◌else◌}
use Rattle.std.specs.Option.{is_some}
use Rattle.kq_model.specs.declared.change.Change.{Change}
use Rattle.kq_model.specs.declared.errno.Errno.{Errno}
use Rattle.kq_model.specs.declared.kevent.Kevent.{Kevent}
use Rattle.kq_model.specs.declared.reply.Reply.{Reply}
use Rattle.kq_model.specs.declared.reply.Reply.TheVariants.{Events, Failed}
use Rattle.kq_model.specs.Bits.{asks, receipt, error}
use Rattle.kq_model.specs.Caller.{Caller}
use Rattle.kq_model.specs.Errno.{error_number}
use Rattle.kq_model.specs.Hearing.{Hearing}
use Rattle.kq_model.specs.Kqueue.{Kqueue}
use Rattle.kq_model.specs.Registration.{Registered, register}
use Rattle.kq_model.specs.Retrieval.{Retrieved, retrieval}
use Rattle.kq_model.specs.Views.{Views}

-- the number of an error, or 0
unfoldable pub number_of : Option Errno → ℕ
number_of None = 0
number_of (Some e) = error_number e

-- the entry that answers a change
unfoldable pub entry_of : Change → Option Errno → Kevent
entry_of c failed = record {
  ident = c.ident;
  filter = c.filter;
  flags = record { 0 = error };
  fflags = c.fflags;
  datum = pos (number_of failed);
  udata = c.udata;
}

-- a change that failed, or that asks for a receipt, is answered by an entry
unfoldable pub is_answered : Change → Option Errno → Bool
is_answered c failed = is_some failed || asks c.flags receipt

-- Without room for an entry the call ends: with the change's error, or with the entries placed before.
unfoldable pub ended : Option Errno → List Kevent → Reply
ended None placed = Events placed
ended (Some e) placed = Failed e

pub record Processed {S : Type 0} (h : Hearing S) : Type 0 where
  pub kq : Kqueue h
  pub placed : List Kevent
  -- the call's answer, where a change ended it
  pub answer : Option Reply

pub record Called {S : Type 0} (h : Hearing S) : Type 0 where
  pub kq : Kqueue h
  pub reply : Reply

module _ {S : Type 0} {h : Hearing S} where
  -- after one change, whose registration is given; `rest` goes on with the later changes
  unfoldable pub after : (List Kevent → Kqueue h → Processed h) → ℕ → Change → List Kevent
      → Registered h → Processed h
  after rest room c placed r =
      if is_answered c r.error
      then (if nat_lt (length placed) room
      then rest (placed ++ entry_of c r.error ∷ []) r.kq
      else record { kq = r.kq; placed = placed; answer = Some (ended r.error placed) })
      else rest placed r.kq

  unfoldable pub process : Caller → ℕ → List Change → List Kevent → Kqueue h → Processed h
  process caller room [] placed kq = record { kq = kq; placed = placed; answer = None }
  process caller room (c ∷ cs) placed kq = after (process caller room cs) room c placed (register caller c kq)

  unfoldable pub returned : Retrieved h → Called h
  returned r = record { kq = r.kq; reply = Events r.events }

  unfoldable pub by_entries : Views → ℕ → List Kevent → Kqueue h → Called h
  by_entries views room [] kq = returned (retrieval views room kq)
  by_entries views room (entry ∷ entries) kq = record { kq = kq; reply = Events (entry ∷ entries) }

  unfoldable pub by_answer : Views → ℕ → Processed h → Option Reply → Called h
  by_answer views room p (Some reply) = record { kq = p.kq; reply = reply }
  by_answer views room p None = by_entries views room p.placed p.kq

  unfoldable pub concluded : Views → ℕ → Processed h → Called h
  concluded views room p = by_answer views room p p.answer

  unfoldable pub call : Caller → ℕ → List Change → Kqueue h → Called h
  call caller room changes kq = concluded caller.views room (process caller room changes [] kq)

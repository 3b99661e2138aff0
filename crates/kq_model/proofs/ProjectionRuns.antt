-- Two kqueues of one process with a USER each, kqueue by kqueue: what each has of the trace, and what it gives alone.
use Rattle.std.specs.Prelude.{◌≡◌, ℕ, List, [], ◌∷◌, Some, None}
use Rattle.std.proofs.Common.{refl}
use Rattle.kq_model.specs.declared.change.Change.{Change}
use Rattle.kq_model.specs.declared.event.Event.{Event}
use Rattle.kq_model.specs.declared.event.Event.TheVariants.{Proc, Kqueue, Kevent}
use Rattle.kq_model.specs.declared.kevent.Kevent as events
use Rattle.kq_model.specs.declared.reply.Reply.TheVariants.{Events, Impossible}
use Rattle.kq_model.specs.declared.row.Row.{Row}
use Rattle.kq_model.specs.declared.why.Why.TheVariants.{NoDescriptor}
use Rattle.kq_model.specs.Bits.{add, trigger}
use Rattle.kq_model.specs.Births.{Birth}
use Rattle.kq_model.specs.Hearing.{listed}
use Rattle.kq_model.specs.Objects as objects
use Rattle.kq_model.specs.PrivateList.{Concern}
use Rattle.kq_model.specs.Projection.{kqueues, plain_rows, private_of, replayed}
use Rattle.kq_model.specs.System.{rows_by}
use Rattle.kq_model.proofs.Builders.{user, event}
use Rattle.kq_model.proofs.ProjectionOpened.{projection_opened}

-- a call of process 1
abbrev call : ℕ → List Change → ℕ → Event
call fd changes room = Kevent 1 fd changes room

-- numbers 9 and 10 are kqueues, made at places 2 and 3; number 4 is not open
abbrev trace : List Event
trace =
    Proc 1 ∷ Kqueue 1 9 ∷ Kqueue 1 10 ∷ call 9 (user 7 add 5 ∷ []) 0 ∷ call 10 (user 8 add trigger ∷ []) 4 ∷ call 4 [] 1
    ∷ call 9 (user 7 0 trigger ∷ []) 1 ∷ call 10 [] 4 ∷ []

abbrev birth : ℕ → ℕ → Birth
birth place number = record { place = place; owner = 1; number = number }

abbrev called : ℕ → ℕ → List Change → ℕ → Concern
called place kqueue changes room = record {
  place = place;
  closed = [];
  hints = [];
  clock = None;
  call = Some (record { kqueue = kqueue; changes = changes; room = room });
}

abbrev row : ℕ → List events.Kevent → Row
row place returned = record { at = place; reply = Events returned }

pub two_kqueues : kqueues objects.listed 1 trace ≡ birth 2 9 ∷ birth 3 10 ∷ []
unfolding projection_opened
two_kqueues = refl

pub first_private : private_of objects.listed 1 trace (birth 2 9) ≡ called 4 2 (user 7 add 5 ∷ []) 0 ∷ called 7 2 (user 7 0 trigger ∷ []) 1 ∷ []
unfolding projection_opened
first_private = refl

pub first_alone : replayed objects.listed 1 listed trace (birth 2 9) ≡ row 4 [] ∷ row 7 (event 7 0 5 ∷ []) ∷ []
unfolding projection_opened
first_alone = refl

pub second_alone : replayed objects.listed 1 listed trace (birth 3 10) ≡ row 5 (event 8 0 0 ∷ []) ∷ row 8 (event 8 0 0 ∷ []) ∷ []
unfolding projection_opened
second_alone = refl

pub plain : plain_rows objects.listed 1 trace ≡ record { at = 6; reply = Impossible NoDescriptor } ∷ []
unfolding projection_opened
plain = refl

-- the rows of the whole system, by place
pub whole : rows_by listed objects.listed 1 trace
    ≡ row 4 [] ∷ row 5 (event 8 0 0 ∷ []) ∷ record { at = 6; reply = Impossible NoDescriptor } ∷ row 7 (event 7 0 5 ∷ []) ∷ row 8 (event 8 0 0 ∷ []) ∷ []
unfolding projection_opened
whole = refl

-- Answers at places where a trace has no such record.
use Rattle.std.specs.Prelude.{ℕ, ◌-◌, nat_lt, Bool, true, false, ◌&&◌, if◌then◌else◌}
use Rattle.std.specs.Prelude.{List, [], ◌∷◌, Option, Some, None, slice_get}
use Rattle.kq_answers.specs.declared.answer.Answer.{Answer}
use Rattle.kq_answers.specs.declared.answer.Given.{Given}
use Rattle.kq_answers.specs.declared.answer.Given.TheVariants as given
use Rattle.kq_model.specs.declared.event.Event.{Event}
use Rattle.kq_model.specs.declared.event.Event.TheVariants.{Kevent}

abbrev pub is_call : Event → Bool
is_call (Kevent pid fd changes room) = true
is_call _ = false

-- a call has events or a failure, any record a reason for which it could not be
abbrev pub fits_record : Option Event → Given → Bool
fits_record None g = false
fits_record (Some e) (given.Impossible why) = true
fits_record (Some e) (given.Events events) = is_call e
fits_record (Some e) (given.Failed number) = is_call e

-- the record at the answer's place may have such an answer
abbrev pub is_placed : List Event → Answer → Bool
is_placed events a = nat_lt 0 a.at && fits_record (slice_get events (a.at - 1)) a.given

-- the line of the first answer whose place has no such record
unfoldable pub first_misplaced : List Event → List Answer → Option ℕ
first_misplaced events [] = None
first_misplaced events (a ∷ answers) = if is_placed events a then first_misplaced events answers else Some a.line

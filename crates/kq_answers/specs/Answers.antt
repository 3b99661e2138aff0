-- Answers: what the lines of a text say, one behind the other. Places rise, and the line that ends a report says
-- nothing. Where a line is bad, the first such line is the outcome (this project's choice).
use Rattle.std.specs.Prelude.{ℕ, ◌+◌, List, [], ◌∷◌, codes, nat_lt, Result, Ok, Err, if◌then◌else◌}
use Rattle.kq_model.specs.declared.line_fault.LineFault.{LineFault}
use Rattle.kq_model.specs.FaultNames.{fault_name}
use Rattle.kq_trace.specs.Rest.{lines_behind}
use Rattle.kq_answers.specs.declared.answer.Answer.{Answer}
use Rattle.kq_answers.specs.declared.answer.AnswerLine.{AnswerLine}
use Rattle.kq_answers.specs.declared.answer.AnswerLine.TheVariants as line
use Rattle.kq_answers.specs.declared.fault.AnswerFault.{AnswerFault}
use Rattle.kq_answers.specs.declared.fault.AnswerFault.TheVariants.{Line, Order, NoCall}
use Rattle.kq_answers.specs.AnswerText.{answer_on}

abbrev pub answer_fault_name : AnswerFault → List ℕ
answer_fault_name (Line fault) = fault_name fault
answer_fault_name Order = codes "Order"
answer_fault_name NoCall = codes "NoCall"

-- the answers, or the first line that is bad
pub data Outcome : Type 0 where
  Good : List Answer → Outcome
  Bad : ℕ → AnswerFault → Outcome

unfoldable pub with_answer : Answer → Outcome → Outcome
with_answer a (Good answers) = Good (a ∷ answers)
with_answer a (Bad number fault) = Bad number fault

-- the place behind which the next answer stands
unfoldable pub place_behind : ℕ → Result AnswerLine LineFault → ℕ
place_behind before (Ok (line.Answer a)) = a.at
place_behind before (Ok line.Counts) = before
place_behind before (Err fault) = before

-- a line behind the answer of a place, and what is behind the line
unfoldable pub joined : ℕ → ℕ → Result AnswerLine LineFault → Outcome → Outcome
joined number before (Ok (line.Answer a)) rest = if nat_lt before a.at then with_answer a rest else Bad number Order
joined number before (Ok line.Counts) rest = rest
joined number before (Err fault) rest = Bad number (Line fault)

-- lines, of which the first has this number, behind the answer of a place
unfoldable pub answers_from : ℕ → ℕ → List (List ℕ) → Outcome
answers_from number before [] = Good []
answers_from number before (bytes ∷ rest) =
    joined number before (answer_on number bytes)
    (answers_from (number + 1) (place_behind before (answer_on number bytes)) rest)

-- what the bytes of answers say; empty input has no line
unfoldable pub answers_in : List ℕ → Outcome
answers_in bytes = answers_from 1 0 (lines_behind bytes)

-- What reading answers leaves.
use Rattle.std.specs.Prelude.{◌≡◌, ◌<◌, ◌+◌, ◌++◌, ℕ, List, ◌∷◌, Option, Some, None, Ok}
use Rattle.kq_answers.specs.declared.answer.Answer.{Answer}
use Rattle.kq_answers.specs.declared.answer.AnswerLine.TheVariants as line
use Rattle.kq_answers.specs.declared.fault.AnswersError.{AnswersError}
use Rattle.kq_answers.specs.declared.fault.AnswersError.TheVariants.{Memory, Bad}
use Rattle.kq_answers.specs.AnswerText.{answer_on}
use Rattle.kq_answers.specs.Answers.{Good, Bad as BadLine, Outcome, answers_from, joined}

-- The outcome is this bad line. That memory is short says nothing.
abbrev pub IsBadLine : Outcome → AnswersError → Type 0
IsBadLine outcome Memory = Unit {0}
IsBadLine outcome (Bad number fault) = outcome ≡ BadLine number fault

-- whatever stands behind it, the line is the first bad one
abbrev pub IsBadNext : ℕ → ℕ → List ℕ → AnswersError → Type 0
IsBadNext number before bytes Memory = Unit {0}
IsBadNext number before bytes (Bad at fault) =
    (rest : Outcome) → joined number before (answer_on number bytes) rest ≡ BadLine at fault

-- the line of a number has this answer, behind that of a place, or counts
abbrev pub Says : ℕ → ℕ → List ℕ → Option Answer → Type 0
Says number before bytes (Some a) = (answer_on number bytes ≡ Ok (line.Answer a)) × (before < a.at)
Says number before bytes None = answer_on number bytes ≡ Ok line.Counts

-- answers that stand before what is ahead
unfoldable pub behind_answers : List Answer → Outcome → Outcome
behind_answers before (Good answers) = Good (before ++ answers)
behind_answers before (BadLine number fault) = BadLine number fault

-- a line was taken behind these answers, whatever lines stand behind it
abbrev pub IsTaken : ℕ → ℕ → List ℕ → List Answer → ℕ → List Answer → Type 0
IsTaken number before bytes old later new =
    (more : List (List ℕ)) → behind_answers old (answers_from number before (bytes ∷ more))
    ≡ behind_answers new (answers_from (number + 1) later more)

-- One line after the other.
use Rattle.std.proofs.Common.{◌≡◌, ℕ, ◌+◌, ◌≤◌, List, [], ◌∷◌, ◌++◌, length, Some, None, Ok, Err, refl, sym, ap, ◌∙◌, append_assoc, append-nil, arith}
use Rattle.std.proofs.lemmas.Bool.{lt-ltb, le-ltb}
use Rattle.kq_model.specs.declared.line_fault.LineFault.{LineFault}
use Rattle.kq_model.specs.Lines.{pieces_of, without_empty_end}
use Rattle.kq_trace.specs.Rest.{lines_behind}
use Rattle.kq_answers.specs.declared.answer.Answer.{Answer}
use Rattle.kq_answers.specs.declared.answer.AnswerLine.TheVariants as line
use Rattle.kq_answers.specs.declared.fault.AnswerFault.TheVariants.{Line, Order}
use Rattle.kq_answers.specs.declared.fault.AnswersError.{AnswersError}
use Rattle.kq_answers.specs.declared.fault.AnswersError.TheVariants.{Memory, Bad as BadError}
use Rattle.kq_answers.specs.AnswerText.{answer_on}
use Rattle.kq_answers.specs.Answers.{Good, Bad, Outcome, answers_from, joined, place_behind, with_answer}
use Rattle.kq_answers.specs.Read.{IsBadLine, IsBadNext, IsTaken, Says, behind_answers}

-- ---- a line

pub out_of_order : (number before : ℕ) (bytes : List ℕ) (a : Answer) → answer_on number bytes ≡ Ok (line.Answer a)
    → a.at ≤ before → (rest : Outcome) → joined number before (answer_on number bytes) rest ≡ Bad number Order
unfolding joined
out_of_order number before bytes a said late rest = rw (said, le-ltb before a.at late) refl

pub no_row : (number before : ℕ) (bytes : List ℕ) (fault : LineFault) → answer_on number bytes ≡ Err fault
    → (rest : Outcome) → joined number before (answer_on number bytes) rest ≡ Bad number (Line fault)
unfolding joined
no_row number before bytes fault said rest = rw said refl

-- ---- lines

with_said : (number before : ℕ) (bytes : List ℕ) (more : List (List ℕ)) (a : Answer) → Says number before bytes (Some a)
    → answers_from number before (bytes ∷ more) ≡ with_answer a (answers_from (number + 1) a.at more)
unfolding answers_from joined place_behind
with_said number before bytes more a said = rw (said.0, lt-ltb before a.at said.1) refl

with_counts : (number before : ℕ) (bytes : List ℕ) (more : List (List ℕ)) → Says number before bytes None
    → answers_from number before (bytes ∷ more) ≡ answers_from (number + 1) before more
unfolding answers_from joined place_behind
with_counts number before bytes more said = rw said refl

behind_one : (xs : List Answer) (a : Answer) (o : Outcome) → behind_answers xs (with_answer a o) ≡ behind_answers (xs ++ a ∷ []) o
unfolding behind_answers with_answer
behind_one xs a (Good answers) = ap Good (sym (append_assoc xs (a ∷ []) answers))
behind_one xs a (Bad number fault) = refl

pub one_taken : (xs ys : List Answer) (number before : ℕ) (bytes : List ℕ) (a : Answer) → Says number before bytes (Some a)
    → ys ≡ xs ++ a ∷ [] → IsTaken number before bytes xs a.at ys
one_taken xs ys number before bytes a said added more =
    ap (behind_answers xs) (with_said number before bytes more a said) ∙ behind_one xs a (answers_from (number + 1) a.at more)
    ∙ ap (λ all. behind_answers all (answers_from (number + 1) a.at more)) (sym added)

pub none_taken : (xs : List Answer) (number before : ℕ) (bytes : List ℕ) → Says number before bytes None
    → IsTaken number before bytes xs before xs
none_taken xs number before bytes said more = ap (behind_answers xs) (with_counts number before bytes more said)

pub one_further : (text : Outcome) (xs ys : List Answer) (number before later : ℕ) (rest bytes behind : List ℕ)
    → text ≡ behind_answers xs (answers_from number before (lines_behind rest))
    → lines_behind rest ≡ bytes ∷ lines_behind behind → IsTaken number before bytes xs later ys
    → text ≡ behind_answers ys (answers_from (number + 1) later (lines_behind behind))
one_further text xs ys number before later rest bytes behind so_far cut taken =
    so_far ∙ ap (λ lines. behind_answers xs (answers_from number before lines)) cut ∙ taken (lines_behind behind)

pub stops : (text : Outcome) (xs : List Answer) (number before : ℕ) (rest bytes behind : List ℕ) (error : AnswersError)
    → text ≡ behind_answers xs (answers_from number before (lines_behind rest))
    → lines_behind rest ≡ bytes ∷ lines_behind behind → IsBadNext number before bytes error → IsBadLine text error
unfolding answers_from behind_answers
stops text xs number before rest bytes behind Memory so_far cut bad = tt
stops text xs number before rest bytes behind (BadError at fault) so_far cut bad =
    so_far ∙ ap (λ lines. behind_answers xs (answers_from number before lines)) cut ∙ ap (behind_answers xs) (bad _)

-- ---- the first and the last

pub none_yet : (bytes : List ℕ) (o : Outcome) → o ≡ behind_answers [] o
unfolding behind_answers
none_yet bytes (Good answers) = refl
none_yet bytes (Bad number fault) = refl

nothing_left : (rest : List ℕ) (number before : ℕ) → length rest ≡ 0 → answers_from number before (lines_behind rest) ≡ Good []
unfolding answers_from lines_behind pieces_of without_empty_end
nothing_left [] number before none = refl
nothing_left (b ∷ bs) number before none = absurd (omega (arith, none))

pub all_read : (text : Outcome) (xs answers : List Answer) (number before : ℕ) (rest : List ℕ)
    → text ≡ behind_answers xs (answers_from number before (lines_behind rest)) → length rest ≡ 0 → answers ≡ xs
    → text ≡ Good answers
unfolding behind_answers
all_read text xs answers number before rest so_far none same =
    so_far ∙ ap (behind_answers xs) (nothing_left rest number before none) ∙ ap Good (append-nil xs ∙ sym same)

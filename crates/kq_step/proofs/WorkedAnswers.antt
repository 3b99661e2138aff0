-- A user event is added, triggered and polled, with a bad line between: what each line is answered, by computation.
use Rattle.std.specs.Prelude.{◌≡◌, ℕ, List, [], ◌∷◌, codes}
use Rattle.std.proofs.Common.{refl}
use Rattle.kq_model.proofs.Builders.{text}
use Rattle.kq_model.proofs.Opened.{system_opened}
use Rattle.kq_model.proofs.ReadingOpened.{reading_opened}
use Rattle.kq_step.specs.Stepping.{after_line, answer_line, answer_lines, answer_to, answered, answered_behind, answers, ended, ended_behind, fault_line, place_line, replied_line, standing_after}

abbrev pub worked_lines : List (List ℕ)
worked_lines =
    codes "{\"kqsim\":1}"
    ∷ codes "{\"op\":\"proc\",\"pid\":1}"
    ∷ codes "{\"op\":\"kqueue\",\"pid\":1,\"fd\":9}"
    ∷ codes "{\"op\":\"kqueue\",\"pid\":1}"
    ∷ codes "{\"op\":\"kevent\",\"pid\":1,\"fd\":9,\"changes\":[{\"ident\":7,\"filter\":\"USER\",\"flags\":[\"ADD\",\"CLEAR\"],\"fflags\":16777216}],\"room\":0}"
    ∷ codes "{\"op\":\"kevent\",\"pid\":1,\"fd\":9,\"changes\":[],\"room\":4}" ∷ []

-- the bad line is the fourth, and the record behind it has place 3
pub worked_answers : ended worked_lines ≡ text (
    codes "{\"at\":1}"
    ∷ codes "{\"at\":2}"
    ∷ codes "{\"line\":4,\"fault\":\"Field\"}"
    ∷ codes "{\"at\":3,\"events\":[]}"
    ∷ codes "{\"at\":4,\"events\":[{\"data\":0,\"fflags\":0,\"filter\":\"USER\",\"flags\":[\"CLEAR\"],\"ident\":7,\"udata\":0}]}"
    ∷ codes "{\"calls\":2,\"events\":1,\"records\":4}" ∷ [])
unfolding system_opened reading_opened after_line answer_line answer_lines answer_to answered answered_behind answers ended ended_behind fault_line place_line replied_line standing_after
worked_answers = refl

-- behind a header of another version nothing is answered
pub worked_header : ended (codes "{\"kqsim\":3}" ∷ codes "{\"op\":\"proc\",\"pid\":1}" ∷ []) ≡ []
unfolding reading_opened ended ended_behind
worked_header = refl

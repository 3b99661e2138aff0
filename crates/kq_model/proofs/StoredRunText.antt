-- The stored run as text: what it reads as, how it is spelled, and what its first bytes read as.
use Rattle.std.specs.Prelude.{◌≡◌, ℕ, List, [], ◌∷◌, codes, take, map, replicate}
use Rattle.std.proofs.Common.{refl}
use Rattle.kq_model.specs.declared.event.Event.TheVariants.{Proc}
use Rattle.kq_model.specs.declared.line_fault.LineFault.TheVariants.{Header, Json}
use Rattle.kq_model.specs.Reading.{Outcome, Good, Bad, reading}
use Rattle.kq_model.specs.Spelling.{spelling}
use Rattle.kq_model.proofs.Builders.{text}
use Rattle.kq_model.proofs.Opened.{system_opened}
use Rattle.kq_model.proofs.ReadingOpened.{reading_opened}
use Rattle.kq_model.proofs.StoredRun.{stored_run}

abbrev pub stored_text : List ℕ
stored_text = text (
    codes "{\"kqsim\":1}"
    ∷ codes "{\"op\":\"proc\",\"pid\":1}"
    ∷ codes "{\"op\":\"kqueue\",\"pid\":1,\"fd\":9}"
    ∷ codes "{\"op\":\"kevent\",\"pid\":1,\"fd\":9,\"changes\":[{\"ident\":7,\"filter\":\"USER\",\"flags\":[\"ADD\"],\"fflags\":5}],\"room\":4}"
    ∷ codes "{\"op\":\"kevent\",\"pid\":1,\"fd\":9,\"changes\":[{\"ident\":7,\"filter\":\"USER\",\"flags\":[],\"fflags\":16777216}],\"room\":0}"
    ∷ codes "{\"op\":\"kevent\",\"pid\":1,\"fd\":9,\"changes\":[],\"room\":4}"
    ∷ codes "{\"op\":\"kevent\",\"pid\":1,\"fd\":9,\"changes\":[],\"room\":4}" ∷ [])

pub stored_text_reads : reading stored_text ≡ Good 1 stored_run
unfolding reading_opened
stored_text_reads = refl

pub header_alone_reads : reading (codes "{\"kqsim\":1}\n") ≡ Good 1 []
unfolding reading_opened
header_alone_reads = refl

pub empty_input : reading [] ≡ Bad 1 Header
unfolding reading_opened
empty_input = refl

pub stored_run_spelled : spelling 1 stored_run ≡ text (
    codes "{\"kqsim\":1}"
    ∷ codes "{\"op\":\"proc\",\"pid\":1}"
    ∷ codes "{\"fd\":9,\"op\":\"kqueue\",\"pid\":1}"
    ∷ codes "{\"changes\":[{\"data\":0,\"fflags\":5,\"filter\":\"USER\",\"flags\":[\"ADD\"],\"ident\":7,\"udata\":0}],\"fd\":9,\"op\":\"kevent\",\"pid\":1,\"room\":4}"
    ∷ codes "{\"changes\":[{\"data\":0,\"fflags\":16777216,\"filter\":\"USER\",\"flags\":[],\"ident\":7,\"udata\":0}],\"fd\":9,\"op\":\"kevent\",\"pid\":1,\"room\":0}"
    ∷ codes "{\"changes\":[],\"fd\":9,\"op\":\"kevent\",\"pid\":1,\"room\":4}"
    ∷ codes "{\"changes\":[],\"fd\":9,\"op\":\"kevent\",\"pid\":1,\"room\":4}" ∷ [])
unfolding system_opened
stored_run_spelled = refl

-- ---- cut after so many bytes

abbrev pub cut_after : ℕ → Outcome
cut_after bytes = reading (take bytes stored_text)

pub cut_in_the_header : cut_after 10 ≡ Bad 1 Header
unfolding reading_opened
cut_in_the_header = refl

pub cut_after_the_header : map cut_after (11 ∷ 12 ∷ []) ≡ Good 1 [] ∷ Good 1 [] ∷ []
unfolding reading_opened
cut_after_the_header = refl

pub cut_in_a_record : map cut_after (13 ∷ 14 ∷ 15 ∷ 16 ∷ 17 ∷ 18 ∷ 19 ∷ 20 ∷ 21 ∷ 22 ∷ 23 ∷ 24 ∷ 25 ∷ 26 ∷ 27 ∷ 28 ∷ 29 ∷ 30 ∷ 31 ∷ 32 ∷ [])
    ≡ replicate 20 (Bad 2 Json)
unfolding reading_opened
cut_in_a_record = refl

pub cut_after_a_record : cut_after 33 ≡ Good 1 (Proc 1 ∷ [])
unfolding reading_opened
cut_after_a_record = refl

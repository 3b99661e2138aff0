-- What was read and written so far, and what each way out leaves.
use Rattle.std.proofs.Common.{◌≡◌, ◌∙◌, ℕ, ◌+◌, List, [], ◌∷◌, ◌++◌, length, Option, None, Some, Result, Ok, Err, refl, sym, ap, ap₂, subst, arith, append_assoc, append-nil, length-append, IfErr, inl, inr, ◌<◌, ◌≤◌}
use Rattle.std.specs.Io.KnownBytes.{Appends, Keeps, prepend_known}
use Rattle.std.proofs.KnownBytes.{Appends-nil, Appends-trans, Keeps-refl}
use Rattle.kq_input.specs.Unread.{IsLastLine, TookLine, TookPart}
use Rattle.kq_model.specs.Reading.{record_on, version_on}
use Rattle.kq_step.specs.declared.fault.Fault.{Fault}
use Rattle.kq_step.specs.declared.fault.Fault.TheVariants.{Usage, Read, Header, Memory, Write}
use Rattle.kq_step.specs.Given.{AreWhole, BeginsWith}
use Rattle.kq_step.specs.SoFar.{SoFar}
use Rattle.kq_step.specs.Answering.{IsHeaderFault, IsOpened, LeavesBy, WroteAll, WroteAnswers, WrotePart}
use Rattle.kq_step.specs.Stepping.{Standing, after_line, answer_line, answer_lines, answer_to, answered, answered_behind, answers, before_records, counts_line, ended, ended_behind, read_next, standing_after}
use Rattle.kq_step.specs.Stood.{IsAt, Stood}
use Rattle.kq_step.proofs.AnswerLaws.{have_report}
use Rattle.kq_step.proofs.LinesRead.{all_read, begins, ended_more, line_read, none_whole, took_nothing, whole_after, whole_before}

-- ---- before the first record

begins_none : (given : Option (List ℕ)) → BeginsWith given []
begins_none None = tt
begins_none (Some text) = (_, refl)

none_answered : (given left before : Option (List ℕ)) (late : List ℕ) → AreWhole given left [] late → WroteAnswers given left before before late
unfolding answered
none_answered given left before late whole = record { lines = []; begins = begins_none given; whole = whole; wrote = Appends-nil before }

-- before a byte was read
pub nothing_answered : (given before : Option (List ℕ)) → LeavesBy given given before before Memory
nothing_answered given before = ([], omega arith, none_answered given given before [] (none_whole given))

pub by_header : (given left before : Option (List ℕ)) (fault : Fault) → IsHeaderFault given left fault → LeavesBy given left before before fault
by_header given left before Usage is = absurd is
by_header given left before Read is = ([], none_answered given left before [] is, inl refl)
by_header given left before (Header fault) is = (is, Keeps-refl before)
by_header given left before Memory is = (is.0, is.1, none_answered given left before is.0 is.2)
by_header given left before Write is = absurd is

-- ---- one line more

more_answers : (number : ℕ) (s : Standing) (lines : List (List ℕ)) (line : List ℕ)
    → answer_lines (answers number s (lines ++ line ∷ []))
    ≡ answer_lines (answers number s lines)
    ++ answer_line (answer_to (number + length lines) (read_next (standing_after s lines) line) (standing_after s lines))
unfolding answers answer_lines standing_after
more_answers number s [] line =
    append-nil _ ∙ ap (λ n. answer_line (answer_to n (read_next s line) s)) (omega arith)
more_answers number s (first ∷ lines) line =
    let s' = after_line (read_next s first) s in
    let here = answer_line (answer_to number (read_next s first) s) in
    let end = standing_after s' lines in
    ap (λ l. here ++ l) (more_answers (number + 1) s' lines line)
    ∙ sym (append_assoc here (answer_lines (answers (number + 1) s' lines)) _)
    ∙ ap (λ n. (here ++ answer_lines (answers (number + 1) s' lines)) ++ answer_line (answer_to n (read_next end line) end)) (omega arith)

more_standing : (s : Standing) (lines : List (List ℕ)) (line : List ℕ)
    → standing_after s (lines ++ line ∷ []) ≡ after_line (read_next (standing_after s lines) line) (standing_after s lines)
unfolding standing_after
more_standing s [] line = refl
more_standing s (first ∷ lines) line = more_standing (after_line (read_next s first) s) lines line

answered_is : (header : List ℕ) (version : ℕ) (lines : List (List ℕ)) → version_on header ≡ Ok version
    → answered (header ∷ lines) ≡ answer_lines (answers 2 (before_records version) lines)
unfolding answered answered_behind
answered_is header version lines good = rw good refl

ended_is : (header : List ℕ) (version : ℕ) (lines : List (List ℕ)) → version_on header ≡ Ok version
    → ended (header ∷ lines) ≡ answered (header ∷ lines) ++ counts_line (standing_after (before_records version) lines)
unfolding answered answered_behind ended ended_behind
ended_is header version lines good = rw good refl

-- ---- so far

pub opened : (given before left : Option (List ℕ)) (version : ℕ) (s : Stood) → IsOpened given left version → IsAt (before_records version) s
    → SoFar given before left before 2 s
unfolding standing_after answered answered_behind answers answer_lines
opened given before left version s is at = record {
  header = is.header;
  lines = [];
  version = version;
  good = is.good;
  read = is.read;
  ended = is.ended;
  count = refl;
  at = at;
  wrote = subst (Appends before before) (sym (answered_is is.header version [] is.good)) (Appends-nil before);
}

-- memory was refused behind the header
pub opened_only : (given left before : Option (List ℕ)) (waiting : List ℕ) (version : ℕ) → IsOpened given (prepend_known waiting left) version
    → length waiting ≤ 65536 → LeavesBy given left before before Memory
unfolding answers answer_lines
opened_only given left before waiting version is few =
    let now = prepend_known waiting left in (
      waiting,
      few,
      record {
        lines = is.header ∷ [];
        begins = begins given now (is.header ∷ []) is.read;
        whole = whole_after given now left waiting (is.header ∷ []) [] is.ended (took_nothing now now (Keeps-refl now));
        wrote = subst (Appends before before) (sym (answered_is is.header version [] is.good)) (Appends-nil before);
      },
    )

-- the standing, for which the calls of the code speak
abbrev pub standing_of : {given before left out : Option (List ℕ)} {number : ℕ} {s : Stood} → SoFar given before left out number s → Standing
standing_of so_far = standing_after (before_records so_far.version) so_far.lines

-- ---- what was answered so far is all

-- these lines were whole
so_far_whole : (given before now left out : Option (List ℕ)) (late : List ℕ) (number : ℕ) (s : Stood) → (so_far : SoFar given before now out number s)
    → AreWhole given left (so_far.header ∷ so_far.lines) late → WroteAnswers given left before out late
so_far_whole given before now left out late number s so_far whole = record {
  lines = so_far.header ∷ so_far.lines;
  begins = begins given now (so_far.header ∷ so_far.lines) so_far.read;
  whole = whole;
  wrote = so_far.wrote;
}

stopped : (given before now left out : Option (List ℕ)) (waiting line : List ℕ) (number : ℕ) (s : Stood) → SoFar given before now out number s
    → TookPart 1048577 now (prepend_known waiting left) line → WroteAnswers given left before out waiting
stopped given before now left out waiting line number s so_far took =
    so_far_whole given before now left out waiting number s so_far
    (whole_after given now left waiting (so_far.header ∷ so_far.lines) line so_far.ended took)

-- a read failed
pub read_failed : (given before now left out : Option (List ℕ)) (waiting line : List ℕ) (number : ℕ) (s : Stood) → SoFar given before now out number s
    → TookPart 1048577 now (prepend_known waiting left) line → waiting ≡ [] → LeavesBy given left before out Read
read_failed given before now left out waiting line number s so_far took none =
    ([], subst (WroteAnswers given left before out) none (stopped given before now left out waiting line number s so_far took), inl refl)

-- memory was refused for the next line
pub line_refused : (given before now left out : Option (List ℕ)) (waiting line : List ℕ) (number : ℕ) (s : Stood) → SoFar given before now out number s
    → TookPart 1048577 now (prepend_known waiting left) line → length waiting ≤ 65536 → LeavesBy given left before out Memory
line_refused given before now left out waiting line number s so_far took few =
    (waiting, few, stopped given before now left out waiting line number s so_far took)

-- for its answer
pub answer_refused : (given before now left out : Option (List ℕ)) (waiting line : List ℕ) (number : ℕ) (s : Stood) → SoFar given before now out number s
    → TookLine 1048577 now (prepend_known waiting left) line → length waiting < 65536 → LeavesBy given left before out Memory
answer_refused given before now left out waiting line number s so_far took few =
    let whole = whole_before given now left waiting (so_far.header ∷ so_far.lines) line so_far.ended took few in
    (whole.0, whole.1, so_far_whole given before now left out whole.0 number s so_far whole.2)

-- for the last line
pub end_refused : (given before now left out : Option (List ℕ)) (waiting : List ℕ) (number : ℕ) (s : Stood) → SoFar given before now out number s
    → Keeps now (prepend_known waiting left) → length waiting < 65536 → LeavesBy given left before out Memory
end_refused given before now left out waiting number s so_far same few = (
  waiting,
  omega (arith, few),
  stopped given before now left out waiting [] number s so_far (took_nothing now (prepend_known waiting left) same),
)

-- the numbers are used up
pub numbers_used : (given before left out : Option (List ℕ)) (waiting : List ℕ) (number : ℕ) (s : Stood) → SoFar given before (prepend_known waiting left) out number s
    → 18446744073709551615 ≤ number → LeavesBy given left before out Read
numbers_used given before left out waiting number s so_far many =
    let now = prepend_known waiting left in
    let lines = so_far.header ∷ so_far.lines in (
      waiting,
      record {
        lines = lines;
        begins = begins given now lines so_far.read;
        whole = whole_after given now left waiting lines [] so_far.ended (took_nothing now now (Keeps-refl now));
        wrote = so_far.wrote;
      },
      inr (omega (arith, so_far.count, many)),
    )

-- ---- one line more is answered

-- the answer to one line more
next_answer : (header : List ℕ) (version : ℕ) (lines : List (List ℕ)) (line whole : List ℕ) (number : ℕ) → version_on header ≡ Ok version
    → ((n : ℕ) → record_on n line ≡ record_on n whole) → number ≡ 2 + length lines
    → answered (header ∷ (lines ++ whole ∷ []))
    ≡ answered (header ∷ lines) ++ answer_line (answer_to number (read_next (standing_after (before_records version) lines) line) (standing_after (before_records version) lines))
next_answer header version lines line whole number good same count =
    let s = before_records version in
    let m = standing_after s lines in
    answered_is header version (lines ++ whole ∷ []) good ∙ more_answers 2 s lines whole
    ∙ ap (λ a. a ++ answer_line (answer_to (2 + length lines) (read_next m whole) m)) (sym (answered_is header version lines good))
    ∙ ap₂ (λ n r. answered (header ∷ lines) ++ answer_line (answer_to n r m)) (sym count) (sym (same (m.records + 2)))

pub next_answered : (given before left later out end : Option (List ℕ)) (number : ℕ) (s t : Stood) (line : List ℕ)
    → (so_far : SoFar given before left out number s) → TookLine 1048577 left later line
    → IsAt (after_line (read_next (standing_of so_far) line) (standing_of so_far)) t
    → Appends out end (answer_line (answer_to number (read_next (standing_of so_far) line) (standing_of so_far)))
    → SoFar given before later end (number + 1) t
next_answered given before left later out end number s t line so_far took at wrote =
    let more = line_read given left later (so_far.header ∷ so_far.lines) line so_far.read took in
    let m = standing_of so_far in
    let same = more.1 (m.records + 2) in
    record {
      header = so_far.header;
      lines = so_far.lines ++ took.whole ∷ [];
      version = so_far.version;
      good = so_far.good;
      read = more.0;
      ended = ended_more given left later (so_far.header ∷ so_far.lines) line so_far.ended took more.0;
      count = omega (arith, so_far.count, length-append so_far.lines (took.whole ∷ []));
      at = subst (λ m'. IsAt m' t) (ap (λ r. after_line r m) same ∙ sym (more_standing (before_records so_far.version) so_far.lines took.whole)) at;
      wrote = subst (Appends before end)
          (sym (next_answer so_far.header so_far.version so_far.lines line took.whole number so_far.good more.1 so_far.count))
          (Appends-trans before out end _ _ so_far.wrote wrote);
    }

-- a part of the next answer was written
pub next_cut : (given before left later out end : Option (List ℕ)) (number : ℕ) (s : Stood) (line done rest : List ℕ)
    → (so_far : SoFar given before left out number s) → TookLine 1048577 left later line
    → answer_line (answer_to number (read_next (standing_of so_far) line) (standing_of so_far)) ≡ done ++ rest → Appends out end done
    → WrotePart given before end
next_cut given before left later out end number s line done rest so_far took cut wrote =
    let more = line_read given left later (so_far.header ∷ so_far.lines) line so_far.read took in
    let lines = so_far.lines ++ took.whole ∷ [] in
    let old = answered (so_far.header ∷ so_far.lines) in
    let counts = counts_line (standing_after (before_records so_far.version) lines) in
    record {
      lines = so_far.header ∷ lines;
      begins = begins given later (so_far.header ∷ lines) more.0;
      done = old ++ done;
      rest = rest ++ counts;
      cut = ended_is so_far.header so_far.version lines so_far.good
          ∙ ap (λ a. a ++ counts) (next_answer so_far.header so_far.version so_far.lines line took.whole number so_far.good more.1 so_far.count ∙ ap (λ a. old ++ a) cut ∙ sym (append_assoc old done rest))
          ∙ append_assoc (old ++ done) rest counts;
      wrote = Appends-trans before out end _ _ so_far.wrote wrote;
    }

-- ---- the end of the input

pub all_answered : (given before left later out end : Option (List ℕ)) (number : ℕ) (s : Stood) → (so_far : SoFar given before left out number s)
    → IsLastLine left later → Appends out end (counts_line (standing_of so_far)) → WroteAll given before end
all_answered given before left later out end number s so_far last wrote = record {
  header = so_far.header;
  lines = so_far.lines;
  version = so_far.version;
  whole = all_read given left (so_far.header ∷ so_far.lines) so_far.read last.0;
  good = so_far.good;
  wrote = subst (Appends before end) (sym (ended_is so_far.header so_far.version so_far.lines so_far.good)) (Appends-trans before out end _ _ so_far.wrote wrote);
  laws = have_report so_far.version so_far.lines;
}

pub end_cut : (given before left out end : Option (List ℕ)) (number : ℕ) (s : Stood) (done rest : List ℕ) → (so_far : SoFar given before left out number s)
    → counts_line (standing_of so_far) ≡ done ++ rest → Appends out end done → WrotePart given before end
end_cut given before left out end number s done rest so_far cut wrote =
    let old = answered (so_far.header ∷ so_far.lines) in
    record {
      lines = so_far.header ∷ so_far.lines;
      begins = begins given left (so_far.header ∷ so_far.lines) so_far.read;
      done = old ++ done;
      rest = rest;
      cut = ended_is so_far.header so_far.version so_far.lines so_far.good ∙ ap (λ a. old ++ a) cut ∙ sym (append_assoc old done rest);
      wrote = Appends-trans before out end _ _ so_far.wrote wrote;
    }

-- The answers to lines give the report of the records among them.
use Rattle.std.proofs.Common.{◌≡◌, ◌∙◌, ◌+◌, ℕ, Bool, true, false, List, [], ◌∷◌, ◌++◌, filter, length, Result, Ok, Err, refl, sym, ap, ap₂, subst, arith}
use Rattle.kq_model.specs.declared.event.Event.{Event}
use Rattle.kq_model.specs.declared.line_fault.LineFault.{LineFault}
use Rattle.kq_model.specs.declared.reply.Reply.{Reply}
use Rattle.kq_model.specs.declared.reply.Reply.TheVariants.{Done, Events, Failed, Impossible}
use Rattle.kq_model.specs.declared.row.Row.{Row}
use Rattle.kq_model.specs.Reading.{Bad, Good, Outcome, joined, read_records, record_on, with_event}
use Rattle.kq_model.specs.Report.{call_count, calls_in, event_count, events_in, last_line, report, report_of, row_lines}
use Rattle.kq_model.specs.System.{row_of, rows, rows_after, rows_by, step}
use Rattle.kq_step.specs.Laws.{HaveReport, is_more, is_more_reply, one_more, records_among, rows_in, rows_in_answer, with_record, without_places}
use Rattle.kq_step.specs.Stepping.{Answer, Refused, Replied, Standing, after_line, answer_line, answer_lines, answer_to, answers, before_records, counts_line, next_step, read_next, replied_line, standing_after, with_step}

-- ---- the rows are those of one fold over the records

row_first : (r : Result Event LineFault) (number : ℕ) (s : Standing) (lines : List (List ℕ))
    → rows_in (answers (number + 1) (after_line r s) lines)
    ≡ rows_after ((after_line r s).records + 1) (after_line r s).system (records_among (after_line r s).records lines)
    → rows_in (answer_to number r s ∷ answers (number + 1) (after_line r s) lines)
    ≡ rows_after (s.records + 1) s.system (with_record r (records_among (one_more r s.records) lines))
unfolding rows_in rows_in_answer answer_to after_line with_record one_more rows_after
row_first (Ok e) number s lines rest = ap (λ rows. row_of (s.records + 1) (next_step e s).reply ++ rows) rest
row_first (Err fault) number s lines rest = rest

pub rows_are : (number : ℕ) (s : Standing) (lines : List (List ℕ))
    → rows_in (answers number s lines) ≡ rows_after (s.records + 1) s.system (records_among s.records lines)
unfolding rows_in answers records_among rows_after
rows_are number s [] = refl
rows_are number s (line ∷ lines) =
    row_first (read_next s line) number s lines (rows_are (number + 1) (after_line (read_next s line) s) lines)

-- ---- what is counted

calls_of_row : (at : ℕ) (r : Reply) (rest : List Row) → call_count (row_of at r ++ rest) ≡ calls_in r + call_count rest
unfolding row_of call_count calls_in
calls_of_row at Done rest = omega arith
calls_of_row at (Events events) rest = refl
calls_of_row at (Failed e) rest = refl
calls_of_row at (Impossible why) rest = refl

events_of_row : (at : ℕ) (r : Reply) (rest : List Row) → event_count (row_of at r ++ rest) ≡ events_in r + event_count rest
unfolding row_of event_count events_in
events_of_row at Done rest = omega arith
events_of_row at (Events events) rest = refl
events_of_row at (Failed e) rest = refl
events_of_row at (Impossible why) rest = refl

records_first : (r : Result Event LineFault) (s : Standing) (lines : List (List ℕ)) (n : ℕ)
    → n ≡ (after_line r s).records + length (records_among (after_line r s).records lines)
    → n ≡ s.records + length (with_record r (records_among (one_more r s.records) lines))
unfolding after_line with_record one_more
records_first (Ok e) s lines n is = omega (arith, is)
records_first (Err fault) s lines n is = is

pub records_counted : (s : Standing) (lines : List (List ℕ))
    → (standing_after s lines).records ≡ s.records + length (records_among s.records lines)
unfolding standing_after records_among
records_counted s [] = omega arith
records_counted s (line ∷ lines) =
    records_first (read_next s line) s lines (standing_after (after_line (read_next s line) s) lines).records
    (records_counted (after_line (read_next s line) s) lines)

calls_first : (r : Result Event LineFault) (number : ℕ) (s : Standing) (rest : List Row) (n : ℕ)
    → n ≡ (after_line r s).calls + call_count rest
    → n ≡ s.calls + call_count (rows_in_answer (answer_to number r s) ++ rest)
unfolding after_line rows_in_answer answer_to
calls_first (Ok e) number s rest n is = omega (arith, is, calls_of_row (s.records + 1) (next_step e s).reply rest)
calls_first (Err fault) number s rest n is = is

pub calls_counted : (number : ℕ) (s : Standing) (lines : List (List ℕ))
    → (standing_after s lines).calls ≡ s.calls + call_count (rows_in (answers number s lines))
unfolding standing_after answers rows_in call_count
calls_counted number s [] = omega arith
calls_counted number s (line ∷ lines) =
    calls_first (read_next s line) number s (rows_in (answers (number + 1) (after_line (read_next s line) s) lines))
    (standing_after (after_line (read_next s line) s) lines).calls
    (calls_counted (number + 1) (after_line (read_next s line) s) lines)

events_first : (r : Result Event LineFault) (number : ℕ) (s : Standing) (rest : List Row) (n : ℕ)
    → n ≡ (after_line r s).events + event_count rest
    → n ≡ s.events + event_count (rows_in_answer (answer_to number r s) ++ rest)
unfolding after_line rows_in_answer answer_to
events_first (Ok e) number s rest n is = omega (arith, is, events_of_row (s.records + 1) (next_step e s).reply rest)
events_first (Err fault) number s rest n is = is

pub events_counted : (number : ℕ) (s : Standing) (lines : List (List ℕ))
    → (standing_after s lines).events ≡ s.events + event_count (rows_in (answers number s lines))
unfolding standing_after answers rows_in event_count
events_counted number s [] = omega arith
events_counted number s (line ∷ lines) =
    events_first (read_next s line) number s (rows_in (answers (number + 1) (after_line (read_next s line) s) lines))
    (standing_after (after_line (read_next s line) s) lines).events
    (events_counted (number + 1) (after_line (read_next s line) s) lines)

from_zero : (n m : ℕ) → n ≡ 0 + m → n ≡ m
from_zero n m is = omega (arith, is)

same_counts : (s : Standing) (calls events records : ℕ) → s.calls ≡ calls → s.events ≡ events → s.records ≡ records
    → counts_line s ≡ last_line calls events records
same_counts s calls events records c e r = rw (c, e, r) refl

pub report_is : (version : ℕ) (lines : List (List ℕ))
    → row_lines (rows_in (answers 2 (before_records version) lines)) ++ counts_line (standing_after (before_records version) lines)
    ≡ report_of version (records_among 0 lines)
unfolding report_of report rows rows_by
report_is version lines =
    let s = before_records version in
    let all = rows_in (answers 2 s lines) in
    let same : all ≡ rows version (records_among 0 lines) = rows_are 2 s lines in
    ap (λ l. row_lines all ++ l)
    (same_counts (standing_after s lines) (call_count all) (event_count all) (length (records_among 0 lines))
    (from_zero _ _ (calls_counted 2 s lines)) (from_zero _ _ (events_counted 2 s lines)) (from_zero _ _ (records_counted s lines)))
    ∙ ap (λ rs. report rs (length (records_among 0 lines))) same

-- ---- where no line has a fault

is_good : Outcome → Bool
is_good (Good version events) = true
is_good (Bad line fault) = false

events_of : Outcome → List Event
events_of (Good version events) = events
events_of (Bad line fault) = []

version_of : Outcome → ℕ
version_of (Good version events) = version
version_of (Bad line fault) = 0

true_not_false : true ≡ false → ⊥
true_not_false is = subst (λ (b : Bool). elim b as (λ _. Type 0) [ true ↦ Unit {0} | false ↦ ⊥ ]) is tt

-- the rest of the lines is good too
pub record IsGoodRest (version line : ℕ) (r : Result Event LineFault) (rest : Outcome) (events : List Event) : Type 0 where
  pub event : Event
  pub later : List Event
  pub first : r ≡ Ok event
  pub good : rest ≡ Good version later
  pub are : events ≡ event ∷ later

good_rest : (version line : ℕ) (r : Result Event LineFault) (rest : Outcome) (events : List Event) → joined line r rest ≡ Good version events
    → IsGoodRest version line r rest events
unfolding joined with_event is_good events_of version_of
good_rest version line (Err fault) rest events is = absurd (true_not_false (sym (ap is_good is)))
good_rest version line (Ok e) (Bad at fault) events is = absurd (true_not_false (sym (ap is_good is)))
good_rest version line (Ok e) (Good v es) events is = record {
  event = e;
  later = es;
  first = refl;
  good = ap (λ n. Good n es) (ap version_of is);
  are = sym (ap events_of is);
}

next_line : (k : ℕ) → k + 2 + 1 ≡ k + 1 + 2
next_line k = omega arith

one_event : (k : ℕ) (r : Result Event LineFault) (lines : List (List ℕ)) (e : Event) (es : List Event) → r ≡ Ok e → records_among (k + 1) lines ≡ es
    → with_record r (records_among (one_more r k) lines) ≡ e ∷ es
unfolding with_record one_more
one_event k r lines e es first rest = rw first (ap (λ l. e ∷ l) rest)

pub records_are : (version k : ℕ) (lines : List (List ℕ)) (events : List Event) → read_records version (k + 2) lines ≡ Good version events
    → records_among k lines ≡ events
unfolding read_records records_among events_of
records_are version k [] events is = ap events_of is
records_are version k (line ∷ lines) events is =
    let rest = good_rest version (k + 2) (record_on (k + 2) line) (read_records version (k + 2 + 1) lines) events is in
    let good : read_records version (k + 1 + 2) lines ≡ Good version rest.later = ap (λ n. read_records version n lines) (sym (next_line k)) ∙ rest.good in
    one_event k (record_on (k + 2) line) lines rest.event rest.later rest.first (records_are version (k + 1) lines rest.later good) ∙ sym rest.are

-- an answer with a row is its line, and one without is left out
one_row : (place : ℕ) (r : Reply) (rest : List Answer) (rows : List Row) → answer_lines (without_places rest) ≡ row_lines rows
    → answer_lines (without_places (Replied place r ∷ rest)) ≡ row_lines (row_of place r ++ rows)
unfolding answer_lines answer_line replied_line row_lines row_of is_more is_more_reply
one_row place Done rest rows is = is
one_row place (Events events) rest rows is = ap (λ l. answer_line (Replied place (Events events)) ++ l) is
one_row place (Failed e) rest rows is = ap (λ l. answer_line (Replied place (Failed e)) ++ l) is
one_row place (Impossible why) rest rows is = ap (λ l. answer_line (Replied place (Impossible why)) ++ l) is

row_of_event : (number : ℕ) (s : Standing) (r : Result Event LineFault) (e : Event) (rest : List Answer) → r ≡ Ok e
    → answer_lines (without_places rest) ≡ row_lines (rows_in rest)
    → answer_lines (without_places (answer_to number r s ∷ rest)) ≡ row_lines (rows_in (answer_to number r s ∷ rest))
unfolding answer_to rows_in rows_in_answer
row_of_event number s r e rest is all = rw is (one_row (s.records + 1) (next_step e s).reply rest (rows_in rest) all)

after_event : (s : Standing) (r : Result Event LineFault) (e : Event) → r ≡ Ok e → (after_line r s).records ≡ s.records + 1
unfolding after_line
after_event s r e is = rw is refl

pub lines_are : (version number : ℕ) (s : Standing) (lines : List (List ℕ)) (events : List Event)
    → read_records version (s.records + 2) lines ≡ Good version events
    → answer_lines (without_places (answers number s lines)) ≡ row_lines (rows_in (answers number s lines))
unfolding read_records answers answer_lines rows_in row_lines
lines_are version number s [] events is = refl
lines_are version number s (line ∷ lines) events is =
    let k = s.records in
    let r = record_on (k + 2) line in
    let rest = good_rest version (k + 2) r (read_records version (k + 2 + 1) lines) events is in
    let s' = after_line r s in
    let at : k + 2 + 1 ≡ s'.records + 2 = omega (arith, after_event s r rest.event rest.first) in
    let good : read_records version (s'.records + 2) lines ≡ Good version rest.later = ap (λ n. read_records version n lines) (sym at) ∙ rest.good in
    row_of_event number s r rest.event (answers (number + 1) s' lines) rest.first (lines_are version (number + 1) s' lines rest.later good)

pub have_report : (version : ℕ) (lines : List (List ℕ)) → HaveReport version lines
unfolding rows rows_by
have_report version lines = record {
  rows = rows_are 2 (before_records version) lines;
  report = report_is version lines;
  trace = λ events good.
      let s = before_records version in
      ap (λ l. l ++ counts_line (standing_after s lines)) (lines_are version 2 s lines events good)
      ∙ report_is version lines ∙ ap (report_of version) (records_are version 0 lines events good);
}

-- What a run logs is its trace and its report.
use Rattle.std.proofs.Common.{◌≡◌, ◌∙◌, ◌+◌, ℕ, List, [], ◌∷◌, ◌++◌, length, refl, sym, ap, ap₂, arith}
use Rattle.std.proofs.lemmas.List.{append-nil, append_assoc}
use Rattle.kq_model.specs.declared.event.Event.{Event}
use Rattle.kq_model.specs.declared.reply.Reply.{Reply}
use Rattle.kq_model.specs.declared.reply.Reply.TheVariants.{Done, Events, Failed, Impossible}
use Rattle.kq_model.specs.declared.row.Row.{Row}
use Rattle.kq_model.specs.Hearing.{listed}
use Rattle.kq_model.specs.Objects as objects
use Rattle.kq_model.specs.Reading.{reading}
use Rattle.kq_model.specs.Report.{call_count, calls_in, event_count, events_in, last_line, report, report_of, reply_line, row_lines}
use Rattle.kq_model.specs.Spelling.{line_text, record_data, records_text, spelling}
use Rattle.kq_model.specs.System.{System, empty_system, row_of, rows, rows_after, rows_by, step}
use Rattle.kq_spell.proofs.ReadAgain.{FitRecords, read_again}
use Rattle.libkqsim.specs.Logs.{Logged, begun, no_log, with_record}
use Rattle.libkqsim.specs.Whole.{FitAll, IsWhole, log_of, whole_log}

trace_grows : (place : ℕ) (s : System listed objects.listed) (es : List Event) (log : Logged)
    → (log_of place s es log).trace ≡ log.trace ++ records_text es
unfolding log_of records_text
trace_grows place s [] log = sym (append-nil log.trace)
trace_grows place s (e ∷ es) log =
    trace_grows (place + 1) (step place e s).system es (with_record place e (step place e s).reply log)
    ∙ append_assoc log.trace (line_text (record_data e)) (records_text es)

row_first : (at : ℕ) (r : Reply) (rest : List Row) → row_lines (row_of at r ++ rest) ≡ reply_line at r ++ row_lines rest
unfolding row_of row_lines reply_line
row_first at Done rest = refl
row_first at (Events events) rest = refl
row_first at (Failed e) rest = refl
row_first at (Impossible why) rest = refl

calls_first : (at : ℕ) (r : Reply) (rest : List Row) → call_count (row_of at r ++ rest) ≡ calls_in r + call_count rest
unfolding row_of call_count calls_in
calls_first at Done rest = omega arith
calls_first at (Events events) rest = refl
calls_first at (Failed e) rest = refl
calls_first at (Impossible why) rest = refl

events_first : (at : ℕ) (r : Reply) (rest : List Row)
    → event_count (row_of at r ++ rest) ≡ events_in r + event_count rest
unfolding row_of event_count events_in
events_first at Done rest = omega arith
events_first at (Events events) rest = refl
events_first at (Failed e) rest = refl
events_first at (Impossible why) rest = refl

report_grows : (place : ℕ) (s : System listed objects.listed) (es : List Event) (log : Logged)
    → (log_of place s es log).report ≡ log.report ++ row_lines (rows_after place s es)
unfolding log_of rows_after row_lines
report_grows place s [] log = sym (append-nil log.report)
report_grows place s (e ∷ es) log =
    let r = (step place e s).reply in
    let next = (step place e s).system in
    let rest = rows_after (place + 1) next es in
    report_grows (place + 1) next es (with_record place e r log)
    ∙ append_assoc log.report (reply_line place r) (row_lines rest)
    ∙ ap (λ l. log.report ++ l) (sym (row_first place r rest))

calls_grow : (place : ℕ) (s : System listed objects.listed) (es : List Event) (log : Logged)
    → (log_of place s es log).calls ≡ log.calls + call_count (rows_after place s es)
unfolding log_of rows_after call_count
calls_grow place s [] log = omega arith
calls_grow place s (e ∷ es) log =
    let r = (step place e s).reply in
    let next = (step place e s).system in
    omega (
      arith,
      calls_grow (place + 1) next es (with_record place e r log),
      calls_first place r (rows_after (place + 1) next es),
    )

events_grow : (place : ℕ) (s : System listed objects.listed) (es : List Event) (log : Logged)
    → (log_of place s es log).events ≡ log.events + event_count (rows_after place s es)
unfolding log_of rows_after event_count
events_grow place s [] log = omega arith
events_grow place s (e ∷ es) log =
    let r = (step place e s).reply in
    let next = (step place e s).system in
    omega (
      arith,
      events_grow (place + 1) next es (with_record place e r log),
      events_first place r (rows_after (place + 1) next es),
    )

trace_is : (version : ℕ) (events : List Event) → (whole_log version events).trace ≡ spelling version events
unfolding spelling
trace_is version events = trace_grows 1 (empty_system version) events (begun (no_log version))

from_zero : (n m : ℕ) → n ≡ 0 + m → n ≡ m
from_zero n m is = omega (arith, is)

report_is : (version : ℕ) (events : List Event) → (whole_log version events).report ≡ report_of version events
unfolding report_of report rows rows_by
report_is version events =
    let s = empty_system version in
    let log = begun (no_log version) in
    let rs = rows_after 1 s events in
    ap₂ (λ l last. l ++ last) (report_grows 1 s events log)
    (ap₂ (λ calls count. last_line calls count (length events)) (from_zero _ _ (calls_grow 1 s events log))
    (from_zero _ _ (events_grow 1 s events log)))

all_fit : (events : List Event) → FitAll events → FitRecords events
all_fit [] fit = tt
all_fit (e ∷ es) fit = (fit.0, all_fit es fit.1)

pub is_whole : (version : ℕ) (events : List Event) → IsWhole version events
is_whole version events = record {
  trace = trace_is version events;
  report = report_is version events;
  again = λ known fit can. ap reading (trace_is version events)
      ∙ read_again version events known (all_fit events fit) can;
}

-- The rows of a trace whose kqueues were replayed alone, and the faults of its report.
use Rattle.std.proofs.Common.{◌≡◌, ℕ, ◌≤◌, ◌<◌, ◌⊎◌, List, length, Option, Some, Result, Ok, Err, IfOk, MatchResult, refl, sym, ap₂, ◌∙◌, subst, arith, ⊎_elim}
use Rattle.std.proofs.lemmas.List.{length-map}
use Rattle.kq_model.specs.declared.event.Event.{Event}
use Rattle.kq_model.specs.declared.row.Row.{Row}
use Rattle.kq_model.specs.Births.{Birth}
use Rattle.kq_model.specs.Reading.{Good, reading}
use Rattle.kq_model.specs.Report.{report, report_of}
use Rattle.kq_model.specs.System.{rows}
use Rattle.kq_model.proofs.VersionOne.{report-version_one}
use Rattle.kq_projection.specs.Traced.{Traced, births_of, places_of}
use Rattle.kq_trace.specs.declared.fault.TraceError.{TraceError}
use Rattle.kq_trace.specs.declared.fault.TraceError.TheVariants as error
use Rattle.kq_trace.specs.Blocks.{IsInputFault as IsTraceInputFault}
use Rattle.kq_trace.specs.Faults.{IsFault as IsTraceFault}
use Rattle.kq_trace.specs.Source.{Ahead, Had as HadAhead}
use Rattle.kq_trace.specs.declared.input_error.InputError.{InputError}
use Rattle.kq_trace.specs.declared.input_error.InputError.TheVariants as input
use Rattle.kq_run.specs.Fault.{fault_of, input_fault_of}
use Rattle.kq_run.specs.Replay.{IsFault, IsFirstReport, IsInputFault, IsReplayFault, IsReport, IsSourceFault}
use Rattle.kq_run.specs.Workers.{IsWorkerCount}
use Rattle.kq_run.specs.declared.fault.Fault.{Fault}
use Rattle.kq_run.specs.declared.fault.Fault.TheVariants.{Usage, Read, Trace, Memory, Spawn, Write}

-- what a call gave, where only its error was turned into another
pub given : {A D E : Type 0} (P : A → Type 0) (r : Result A E) (q : Result A D) (x : A) → MatchResult r (λ y. q ≡ Ok y) (λ _. ⊥)
    → q ≡ Ok x → IfOk r P → P x
given P (Ok y) q x same at is =
    let one : y ≡ x = cc in
    subst P one is
given P (Err e) q x same at is = absurd same

-- ---- the rows

-- the report of those of a trace is that of the trace
pub report_is : (version records : ℕ) (events : List Event) (found : List Row) (text : List ℕ) → records ≡ length events
    → found ≡ rows version events → text ≡ report found records → text ≡ report_of version events
unfolding report_of
report_is version records events found text counts are is = rw (is, counts, are) refl

-- of version 1 it is that of its own definitions
pub first-report : (bytes text : List ℕ) → IsReport bytes text → IsFirstReport bytes text
first-report bytes text (version, es, good, is) events first =
    let both : Good version es ≡ Good 1 events = sym good ∙ first in
    let same_version : version ≡ 1 = cc in
    let same_events : es ≡ events = cc in
    is ∙ ap₂ report_of same_version same_events ∙ report-version_one events

-- ---- the faults

-- a start that was refused
pub spawned : (t : Traced) (workers : ℕ) → 2 ≤ workers → 2 ≤ length (places_of t) → IsReplayFault t.version t.events workers Spawn
spawned t workers many more = (many, subst (λ n. 2 ≤ n) (length-map (births_of t) (λ (b : Birth). b.place)) more)

-- a number of workers that is out of range
pub in_range : (workers : ℕ) → IsWorkerCount workers → (workers ≡ 0) ⊎ (256 < workers) → ⊥
in_range workers is out =
    ⊎_elim (λ none. absurd (omega (arith, is.0, none))) (λ many. absurd (omega (arith, is.1, many))) out

pub fault_of_replay : (bytes : List ℕ) (workers version : ℕ) (events : List Event) → reading bytes ≡ Good version events
    → (fault : Fault) → IsReplayFault version events workers fault → IsFault bytes workers fault
fault_of_replay bytes workers version events good Usage h = absurd h
fault_of_replay bytes workers version events good Read h = h
fault_of_replay bytes workers version events good (Trace line fault) h = absurd h
fault_of_replay bytes workers version events good Memory h = tt
fault_of_replay bytes workers version events good Spawn h = (h.0, (version, events, good, h.1))
fault_of_replay bytes workers version events good Write h = h

-- a text that is no trace
pub read_fault : (bytes : List ℕ) (workers : ℕ) (error : TraceError) → IsTraceFault bytes error → IsFault bytes workers (fault_of error)
read_fault bytes workers error.Memory is = tt
read_fault bytes workers (error.Bad line fault) is = is

-- ---- the same of a source

pub read_source_fault : (may_fail : Type 0) (ahead : Ahead) (workers : ℕ) (error : InputError) → IsTraceInputFault may_fail ahead error
    → IsSourceFault may_fail ahead workers (input_fault_of error)
read_source_fault may_fail ahead workers input.Read is = is
read_source_fault may_fail ahead workers (input.Trace error.Memory) is = tt
read_source_fault may_fail ahead workers (input.Trace (error.Bad line fault)) (bytes, had, is) = (bytes, had, is)

pub source_fault_of_replay : (may_fail : Type 0) (ahead : Ahead) (workers version : ℕ) (events : List Event) (bytes : List ℕ) → HadAhead ahead bytes
    → reading bytes ≡ Good version events → (fault : Fault) → IsReplayFault version events workers fault → IsSourceFault may_fail ahead workers fault
source_fault_of_replay may_fail ahead workers version events bytes had good Usage h = absurd h
source_fault_of_replay may_fail ahead workers version events bytes had good Read h = absurd h
source_fault_of_replay may_fail ahead workers version events bytes had good (Trace line fault) h = absurd h
source_fault_of_replay may_fail ahead workers version events bytes had good Memory h = tt
source_fault_of_replay may_fail ahead workers version events bytes had good Spawn h =
    (bytes, had, fault_of_replay bytes workers version events good Spawn h)
source_fault_of_replay may_fail ahead workers version events bytes had good Write h = absurd h

-- bytes that are lent are those that a source of them had
pub lent_fault : (bytes : List ℕ) (workers : ℕ) (fault : Fault)
    → IsSourceFault ⊥ (record { known = Some bytes; most = length bytes }) workers fault → IsFault bytes workers fault
lent_fault bytes workers Usage h = absurd h
lent_fault bytes workers Read h = h
lent_fault bytes workers (Trace line fault) (given, had, is) = subst (λ (bs : List ℕ). IsFault bs workers (Trace line fault)) had.0 is
lent_fault bytes workers Memory h = tt
lent_fault bytes workers Spawn (given, had, is) = subst (λ (bs : List ℕ). IsFault bs workers Spawn) had.0 is
lent_fault bytes workers Write h = h

-- an input is such a source
pub input_fault : (given : Option (List ℕ)) (limit workers : ℕ) (fault : Fault)
    → IsSourceFault (Unit {0}) (record { known = given; most = limit }) workers fault → IsInputFault given limit workers fault
input_fault given limit workers Usage h = h
input_fault given limit workers Read h = tt
input_fault given limit workers (Trace line fault) h = h
input_fault given limit workers Memory h = tt
input_fault given limit workers Spawn h = h
input_fault given limit workers Write h = h

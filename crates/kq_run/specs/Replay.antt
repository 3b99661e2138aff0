-- What `replay` promises: the report of one fold of the whole system over the trace that the bytes are,
-- or a fault that was met.
use Rattle.std.specs.Prelude.{◌≡◌, ◌≤◌, ℕ, List, length, Option}
use Rattle.kq_model.specs.declared.event.Event.{Event}
use Rattle.kq_model.specs.Reading.{Good, Bad, reading}
use Rattle.kq_model.specs.Report.{report, report_of}
use Rattle.kq_model.specs.VersionOne as one
use Rattle.kq_projection.specs.Traced.{births_of}
use Rattle.kq_trace.specs.Source.{Ahead, WereGiven, Had as HadAhead}
use Rattle.kq_run.specs.Workers.{IsWorkerCount}
use Rattle.kq_run.specs.declared.fault.Fault.{Fault}
use Rattle.kq_run.specs.declared.fault.Fault.TheVariants.{Usage, Read, Trace, Memory, Spawn, Write}

-- the trace makes more than one kqueue
abbrev pub HasKqueues : ℕ → List Event → Type 0
HasKqueues version events = 2 ≤ length (births_of (record { version = version; events = events }))

-- the text is the report of the trace that these bytes are, of the version that it names
abbrev pub IsReport : List ℕ → List ℕ → Type 0
IsReport bytes text =
    (version : ℕ) × (events : List Event) × (reading bytes ≡ Good version events)
    × (text ≡ report_of version events)

-- where these bytes are a trace of version 1, the text is its report by the definitions of that version
abbrev pub IsFirstReport : List ℕ → List ℕ → Type 0
IsFirstReport bytes text =
    (events : List Event) → reading bytes ≡ Good 1 events → text ≡ report (one.rows 1 events) (length events)

-- the text is the report of this trace
abbrev pub IsReportOf : ℕ → List Event → List ℕ → Type 0
IsReportOf version events text = text ≡ report_of version events

-- the bytes are a trace, whatever its events are
abbrev pub IsTrace : List ℕ → Type 0
IsTrace bytes = (version : ℕ) × (events : List Event) × (reading bytes ≡ Good version events)

-- they are one that makes more than one kqueue
abbrev pub MakesKqueues : List ℕ → Type 0
MakesKqueues bytes =
    (version : ℕ) × (events : List Event) × (reading bytes ≡ Good version events) × HasKqueues version events

-- the fault can come from these bytes and so many workers; that memory or a start was refused is no fact of either,
-- but a thread is started only where there are a second worker and a second kqueue
abbrev pub IsFault : List ℕ → ℕ → Fault → Type 0
IsFault bytes workers Usage = ¬ IsWorkerCount workers
IsFault bytes workers Read = ⊥
IsFault bytes workers (Trace line fault) = reading bytes ≡ Bad line fault
IsFault bytes workers Memory = Unit {0}
IsFault bytes workers Spawn = (2 ≤ workers) × MakesKqueues bytes
IsFault bytes workers Write = ⊥

-- the same of a trace that was read
abbrev pub IsReplayFault : ℕ → List Event → ℕ → Fault → Type 0
IsReplayFault version events workers Usage = ⊥
IsReplayFault version events workers Read = ⊥
IsReplayFault version events workers (Trace line fault) = ⊥
IsReplayFault version events workers Memory = Unit {0}
IsReplayFault version events workers Spawn = (2 ≤ workers) × HasKqueues version events
IsReplayFault version events workers Write = ⊥

-- the text is the report of the trace that a source had
abbrev pub IsReportFrom : Ahead → List ℕ → Type 0
IsReportFrom ahead text = (bytes : List ℕ) × HadAhead ahead bytes × IsReport bytes text

-- the fault can come from what a source had and so many workers
abbrev pub IsSourceFault : Type 0 → Ahead → ℕ → Fault → Type 0
IsSourceFault may_fail ahead workers Usage = ⊥
IsSourceFault may_fail ahead workers Read = may_fail
IsSourceFault may_fail ahead workers (Trace line fault) =
    (bytes : List ℕ) × HadAhead ahead bytes × IsFault bytes workers (Trace line fault)
IsSourceFault may_fail ahead workers Memory = Unit {0}
IsSourceFault may_fail ahead workers Spawn = (bytes : List ℕ) × HadAhead ahead bytes × IsFault bytes workers Spawn
IsSourceFault may_fail ahead workers Write = ⊥

-- an input of no more bytes than so many had these bytes, where it is known what it had
abbrev pub Had : Option (List ℕ) → ℕ → List ℕ → Type 0
Had given limit bytes = WereGiven given bytes × (length bytes ≤ limit)

-- the text is the report of the trace that such an input had
abbrev pub IsReportIn : Option (List ℕ) → ℕ → List ℕ → Type 0
IsReportIn given limit text = (bytes : List ℕ) × Had given limit bytes × IsReport bytes text

-- the fault can come from such an input and so many workers
abbrev pub IsInputFault : Option (List ℕ) → ℕ → ℕ → Fault → Type 0
IsInputFault given limit workers Usage = ⊥
IsInputFault given limit workers Read = Unit {0}
IsInputFault given limit workers (Trace line fault) =
    (bytes : List ℕ) × Had given limit bytes × IsFault bytes workers (Trace line fault)
IsInputFault given limit workers Memory = Unit {0}
IsInputFault given limit workers Spawn = (bytes : List ℕ) × Had given limit bytes × IsFault bytes workers Spawn
IsInputFault given limit workers Write = ⊥

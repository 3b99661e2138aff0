-- What a trace on one live system gives: a book, the report of its rows, and its text.
use Rattle.std.specs.Prelude.{◌≡◌, ◌≤◌, ℕ, List}
use Rattle.kq_model.specs.declared.event.Event.{Event}
use Rattle.kq_model.specs.Reading.{Good, Bad, reading}
use Rattle.kq_model.specs.Report.{report_of}
use Rattle.kq_model.specs.Spelling.{spelling}
use Rattle.kq_live.specs.Recorded.{IsRun, Recorded}
use Rattle.kq_run.specs.Replay.{IsTrace}
use Rattle.kq_run.specs.Workers.{IsThreadCount}
use Rattle.kq_run.specs.declared.fault.Fault.{Fault}
use Rattle.kq_run.specs.declared.fault.Fault.TheVariants.{Usage, Read, Trace, Memory, Spawn, Write}

-- the book of the trace that these bytes are, run by so many threads
abbrev pub IsBookOf : List ℕ → ℕ → Recorded → Type 0
IsBookOf bytes threads book =
    (version : ℕ) × (events : List Event) × (reading bytes ≡ Good version events)
    × IsRun version threads events book

-- the text is the report of the trace of such a book
abbrev pub IsLiveReport : List ℕ → ℕ → List ℕ → Type 0
IsLiveReport bytes threads text =
    (book : Recorded) × IsBookOf bytes threads book × (text ≡ report_of book.version book.events)

-- the text is the canonical text of the trace of such a book
abbrev pub IsBookText : List ℕ → ℕ → List ℕ → Type 0
IsBookText bytes threads text =
    (book : Recorded) × IsBookOf bytes threads book × (text ≡ spelling book.version book.events)

-- the fault of a run can come from so many threads: one alone is never started; no fact of them says that memory
-- was refused
abbrev pub IsRunFault : ℕ → Fault → Type 0
IsRunFault threads Usage = ¬ IsThreadCount threads
IsRunFault threads Read = ⊥
IsRunFault threads (Trace line fault) = ⊥
IsRunFault threads Memory = Unit {0}
IsRunFault threads Spawn = 2 ≤ threads
IsRunFault threads Write = ⊥

-- the fault can come from these bytes and so many threads: no thread is started where they are no trace, nor where one
-- makes all calls
abbrev pub IsLiveFault : List ℕ → ℕ → Fault → Type 0
IsLiveFault bytes threads Usage = ¬ IsThreadCount threads
IsLiveFault bytes threads Read = ⊥
IsLiveFault bytes threads (Trace line fault) = reading bytes ≡ Bad line fault
IsLiveFault bytes threads Memory = Unit {0}
IsLiveFault bytes threads Spawn = IsTrace bytes × (2 ≤ threads)
IsLiveFault bytes threads Write = ⊥

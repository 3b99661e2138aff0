-- What a run logs from its beginning is the canonical text of its trace, and its report.
use Rattle.std.specs.Prelude.{◌≡◌, ◌+◌, ℕ, List, [], ◌∷◌, length}
use Rattle.kq_model.specs.declared.event.Event.{Event}
use Rattle.kq_model.specs.Hearing.{listed}
use Rattle.kq_model.specs.Limits.{IsVersion}
use Rattle.kq_model.specs.Objects as objects
use Rattle.kq_model.specs.Reading.{Good, reading}
use Rattle.kq_model.specs.Report.{report_of}
use Rattle.kq_model.specs.Spelling.{spelling}
use Rattle.kq_model.specs.System.{System, empty_system, step}
use Rattle.kq_spell.specs.Again.{CanBeReadAgain, FitsRecord}
use Rattle.libkqsim.specs.Logs.{Logged, begun, ended, no_log, with_record}

-- these events, applied to the system from this place on, are logged with their replies
unfoldable pub log_of : ℕ → System listed objects.listed → List Event → Logged → Logged
log_of place s [] log = log
log_of place s (e ∷ es) log =
    log_of (place + 1) (step place e s).system es (with_record place e (step place e s).reply log)

-- a run of these events from the beginning, whose log is ended behind them
abbrev pub whole_log : ℕ → List Event → Logged
whole_log version events = ended (length events) (log_of 1 (empty_system version) events (begun (no_log version)))

-- the numbers of each are in the ranges of their types
abbrev pub FitAll : List Event → Type 0
FitAll [] = Unit {0}
FitAll (e ∷ es) = FitsRecord e × FitAll es

pub record IsWhole (version : ℕ) (events : List Event) : Type 0 where
  pub trace : (whole_log version events).trace ≡ spelling version events
  pub report : (whole_log version events).report ≡ report_of version events
  -- so the trace reads back as these events
  pub again : IsVersion version → FitAll events → CanBeReadAgain events
      → reading (whole_log version events).trace ≡ Good version events

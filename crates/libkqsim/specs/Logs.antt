-- What a system logs as text: the trace of its records, and the report of it.
use Rattle.std.specs.Prelude.{◌≡◌, ◌≤◌, ◌<◌, ◌+◌, ℕ, ℤ, pos, ◌⊎◌, List, [], ◌∷◌, ◌++◌, length, take, drop}
use Rattle.std.specs.Prelude.{Option, Some, None, Result, Err, IfOk, OnErr}
use Rattle.kq_freebsd.specs.declared.refusal.Refusal.{Refusal}
use Rattle.kq_freebsd.specs.declared.refusal.Refusal.TheVariants.{Argument, Full}
use Rattle.kq_freebsd.specs.Answers.{refusal_number}
use Rattle.kq_model.specs.declared.event.Event.{Event}
use Rattle.kq_model.specs.declared.reply.Reply.{Reply}
use Rattle.kq_model.specs.Report.{calls_in, events_in, last_line, reply_line}
use Rattle.kq_model.specs.Spelling.{header_data, line_text, record_data}
use Rattle.kq_system.specs.SystemState.{SystemState}
use Rattle.libkqsim.specs.declared.log.Stage.{Stage}
use Rattle.libkqsim.specs.declared.log.Stage.TheVariants.{Off, On, Ended}
use Rattle.libkqsim.specs.declared.sim.Logging.{Logging}
use Rattle.libkqsim.specs.declared.sim.Logging.TheVariants.{Begin, End}
use Rattle.libkqsim.specs.declared.sim.Stream.{Stream}
use Rattle.libkqsim.specs.declared.sim.Stream.TheVariants.{Trace, Report}

-- ---- what contracts see

-- a text that was not read yet, and the bytes that it can grow by without memory
pub record Growing : Type 0 where
  pub text : List ℕ
  pub room : ℕ

-- what was logged and not read yet, and what the last line of the report is to count
pub record Logged : Type 0 where
  -- of the trace
  pub version : ℕ
  pub stage : Stage
  pub trace : List ℕ
  pub report : List ℕ
  pub calls : ℕ
  pub events : ℕ

-- a log, and what is there for the next record: its line, and room for it and for the line of its answer
pub record LogState : Type 0 where
  pub logged : Logged
  pub line : List ℕ
  pub line_room : ℕ
  pub answer_room : ℕ

-- a system and what it logs
pub record SimState : Type 0 where
  pub system : SystemState
  pub log : Logged

-- ---- the log

-- of a system for which none was begun
abbrev pub no_log : ℕ → Logged
no_log version = record { version = version; stage = Off; trace = []; report = []; calls = 0; events = 0 }

-- it is begun, by the header of the trace
abbrev pub begun : Logged → Logged
begun log = record log { stage = On; trace = log.trace ++ line_text (header_data log.version) }

-- with this line of a record at a place, and its answer
abbrev pub with_line : ℕ → List ℕ → Reply → Logged → Logged
with_line place line reply log = record log {
  trace = log.trace ++ line;
  report = log.report ++ reply_line place reply;
  calls = log.calls + calls_in reply;
  events = log.events + events_in reply;
}

abbrev pub with_record : ℕ → Event → Reply → Logged → Logged
with_record place event reply log = with_line place (line_text (record_data event)) reply log

-- it is ended behind so many records, by the last line of the report
abbrev pub ended : ℕ → Logged → Logged
ended records log = record log {
  stage = Ended;
  report = log.report ++ last_line log.calls log.events records;
}

-- the record is logged, where the log is at this stage
abbrev pub recorded_at : Stage → ℕ → Event → Reply → Logged → Logged
recorded_at Off place event reply log = log
recorded_at On place event reply log = with_record place event reply log
recorded_at Ended place event reply log = log

-- ---- what a call does to the log

-- a record that was applied is logged where the log is on, once; one that was refused is not
pub record IsLogged (event : Event) (old new : SimState) (answer : Result Reply Refusal) : Type 0 where
  pub applied : IfOk answer (λ reply. new.log
      ≡ recorded_at old.log.stage (old.system.applied + 1) event reply old.log)
  pub refused : OnErr answer (new.log ≡ old.log)

-- whether the log can be begun, or ended
abbrev pub CanSwitch : Logging → SimState → Type 0
CanSwitch Begin s = (s.log.stage ≡ Off) × (s.system.applied ≡ 0)
CanSwitch End s = s.log.stage ≡ On

-- the log that is begun, or ended
abbrev pub switched : Logging → SimState → Logged
switched Begin s = begun s.log
switched End s = ended s.system.applied s.log

-- the log was begun or ended; or it was not, for want of memory or since it cannot be, and nothing has changed
pub record IsSwitched (logging : Logging) (old new : SimState) (done : Result (Unit {0}) Refusal) : Type 0 where
  pub system : new.system ≡ old.system
  pub can : IfOk done (λ _. CanSwitch logging old)
  pub log : IfOk done (λ _. new.log ≡ switched logging old)
  pub refused : OnErr done (new.log ≡ old.log)
  pub argument : done ≡ Err Argument → CanSwitch logging old → ⊥
  pub full : done ≡ Err Full → ⊥

-- ---- reading

abbrev pub stream_of : Stream → Logged → List ℕ
stream_of Trace log = log.trace
stream_of Report log = log.report

-- the same log, with another rest of this text
abbrev pub with_rest : Stream → List ℕ → Logged → Logged
with_rest Trace rest log = record log { trace = rest }
with_rest Report rest log = record log { report = rest }

-- the first byte of a text was taken from it, where there is one
abbrev pub IsNext : List ℕ → List ℕ → Option ℕ → Type 0
IsNext before after None = (before ≡ []) × (after ≡ [])
IsNext before after (Some byte) = before ≡ byte ∷ after

-- bytes were taken from the front of a text into an array, as many as there are and have room
pub record IsRead (before after old new : List ℕ) (count : ℕ) : Type 0 where
  pub taken : before ≡ take count new ++ after
  pub within : count ≤ length old
  pub all : count < length old → after ≡ []
  pub behind : drop count new ≡ drop count old

-- ---- what C is told

-- the number is 0 where the log was begun or ended, and else that of a refusal, by which nothing has changed
abbrev pub IsSwitchedTo : Logging → SimState → SimState → ℤ → Type 0
IsSwitchedTo logging old new number =
    ((number ≡ pos 0) × CanSwitch logging old × (new.system ≡ old.system) × (new.log ≡ switched logging old))
    ⊎ ((refusal : Refusal) × (number ≡ refusal_number refusal) × (refusal ≡ Argument → CanSwitch logging old → ⊥)
    × (refusal ≡ Full → ⊥) × (new ≡ old))

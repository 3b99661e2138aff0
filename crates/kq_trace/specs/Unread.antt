-- What a reader of a trace has before it, and what reading one record more leaves of that.
use Rattle.std.specs.Prelude.{◌≡◌, ℕ, ◌+◌, ◌≤◌, List, [], ◌++◌, length, Option, Some, None}
use Rattle.kq_model.specs.declared.event.Event.{Event}
use Rattle.kq_model.specs.Limits.{most_records}
use Rattle.kq_model.specs.Reading.{Outcome, Good, Bad, read_records, with_event}
use Rattle.kq_trace.specs.declared.fault.TraceError.{TraceError}
use Rattle.kq_trace.specs.declared.fault.TraceError.TheVariants.{Memory, Bad as BadTrace}

-- what lines give that follow lines with these events
abbrev pub behind_events : List Event → Outcome → Outcome
behind_events before (Good version events) = Good version (before ++ events)
behind_events before (Bad line fault) = Bad line fault

pub record Unread : Type 0 where
  -- the version that the header names
  pub version : ℕ
  -- the number of the next line
  pub line : ℕ
  -- what the lines from there on mean
  pub meaning : Outcome

-- a record was read off the next line
pub record IsReadOff (event : Event) (old new : Unread) : Type 0 where
  pub meaning : old.meaning ≡ with_event event new.meaning
  pub line : new.line ≡ old.line + 1
  -- there are no more records than a trace may have
  pub limit : old.line ≤ 1 + most_records

-- the record that was read, or that no line is left
abbrev pub IsNext : Unread → Option Event → Unread → Type 0
IsNext old (Some event) new = IsReadOff event old new
IsNext old None new = old.meaning ≡ Good old.version []

-- these records were read off the next lines, or no line is left
pub record IsPart (events : List Event) (old new : Unread) : Type 0 where
  pub meaning : old.meaning ≡ behind_events events new.meaning
  pub line : new.line ≡ old.line + length events
  pub limit : new.line ≤ 2 + most_records
  pub last : events ≡ [] → new.meaning ≡ Good new.version []

-- This is the first bad line of those ahead. That memory is short says nothing of them.
abbrev pub IsFaultAhead : Outcome → TraceError → Type 0
IsFaultAhead meaning Memory = Unit {0}
IsFaultAhead meaning (BadTrace line fault) = meaning ≡ Bad line fault

-- Numbered from here, these lines are these records, whatever lines follow.
pub record AreRecordsFrom (number : ℕ) (lines : List (List ℕ)) (events : List Event) : Type 0 where
  pub meaning : (version : ℕ) (later : List (List ℕ))
      → read_records version number (lines ++ later)
      ≡ behind_events events (read_records version (number + length events) later)
  pub count : length events ≡ length lines
  pub limit : number + length events ≤ 2 + most_records

-- Numbered from here, one of these lines is the first bad one, whatever lines follow.
abbrev pub IsFaultFrom : ℕ → List (List ℕ) → TraceError → Type 0
IsFaultFrom number lines error =
    (version : ℕ) (later : List (List ℕ)) → IsFaultAhead (read_records version number (lines ++ later)) error

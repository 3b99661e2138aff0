-- What a refusal of a text says.
use Rattle.std.specs.Prelude.{◌≡◌, ℕ, ◌+◌, ◌<◌, List, slice_get, Some, None}
use Rattle.kq_model.specs.declared.line_fault.LineFault.{LineFault}
use Rattle.kq_model.specs.Lines.{lines_of}
use Rattle.kq_model.specs.Reading.{Bad as BadLine, fault_on, reading}
use Rattle.kq_trace.specs.declared.fault.TraceError.{TraceError}
use Rattle.kq_trace.specs.declared.fault.TraceError.TheVariants.{Memory, Bad}

-- The text means this bad line. That memory is short says nothing of the text.
abbrev pub IsFault : List ℕ → TraceError → Type 0
IsFault bytes Memory = Unit {0}
IsFault bytes (Bad line fault) = reading bytes ≡ BadLine line fault

-- Of lines that are numbered from `first`, the one of number `line` has this fault, and no earlier one has any.
pub record IsFirstBad (first : ℕ) (lines : List (List ℕ)) (line : ℕ) (fault : LineFault) : Type 0 where
  pub place : ℕ
  pub counted : line ≡ first + place
  pub text : List ℕ
  pub there : slice_get lines place ≡ Some text
  pub faulty : fault_on line text ≡ Some fault
  pub earlier : (k : ℕ) (before : List ℕ) → k < place → slice_get lines k ≡ Some before
      → fault_on (first + k) before ≡ None

abbrev pub IsLeastFault : List ℕ → TraceError → Type 0
IsLeastFault bytes Memory = Unit {0}
IsLeastFault bytes (Bad line fault) = IsFirstBad 1 (lines_of bytes) line fault

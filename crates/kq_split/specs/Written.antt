-- What printing leaves, by the bytes that the reader had and those that the writer got.
use Rattle.std.specs.Prelude.{◌≡◌, ◌≤◌, ℕ, List, ◌++◌, length, Option}
use Rattle.std.specs.Io.KnownBytes.{Appends, Keeps}
use Rattle.kq_model.specs.declared.trace.Trace.{Trace}
use Rattle.kq_model.specs.Reading.{Good, Bad, reading}
use Rattle.kq_projection.specs.Traced.{Traced, traced, IsBorn}
use Rattle.kq_trace.specs.Source.{WereGiven}
use Rattle.kq_split.specs.Texts.{IsText}
use Rattle.kq_split.specs.declared.fault.Fault.{Fault}
use Rattle.kq_split.specs.declared.fault.Fault.TheVariants.{Usage, NoKqueue, Read, Trace as BadTrace, Memory, Write}
use Rattle.kq_split.specs.declared.wanted.Wanted.{Wanted}
use Rattle.kq_split.specs.declared.wanted.Wanted.TheVariants as wanted

-- an input of no more bytes than so many had these bytes, where it is known what it had
abbrev pub Had : Option (List ℕ) → ℕ → List ℕ → Type 0
Had given limit bytes = WereGiven given bytes × (length bytes ≤ limit)

-- such an input had this trace
abbrev pub IsRead : Option (List ℕ) → ℕ → Trace → Type 0
IsRead given limit t = (bytes : List ℕ) × Had given limit bytes × (reading bytes ≡ Good t.version t.events)

-- no trace was read of such an input, with this fault
abbrev pub IsInputFault : Option (List ℕ) → ℕ → Fault → Type 0
IsInputFault given limit Usage = ⊥
IsInputFault given limit (NoKqueue at) = ⊥
IsInputFault given limit Read = Unit {0}
IsInputFault given limit (BadTrace line fault) =
    (bytes : List ℕ) × Had given limit bytes × (reading bytes ≡ Bad line fault)
IsInputFault given limit Memory = Unit {0}
IsInputFault given limit Write = ⊥

-- a kqueue of this place is asked for
abbrev pub Names : Wanted → ℕ → Type 0
Names wanted.Kqueues at = ⊥
Names (wanted.Items kqueue) at = kqueue ≡ at
Names (wanted.Rows kqueue) at = kqueue ≡ at

-- there is no text of a trace, with this fault
abbrev pub IsTextFault : Traced → Wanted → Fault → Type 0
IsTextFault t w Usage = ⊥
IsTextFault t w (NoKqueue at) = Names w at × ¬ IsBorn at t
IsTextFault t w Read = ⊥
IsTextFault t w (BadTrace line fault) = ⊥
IsTextFault t w Memory = Unit {0}
IsTextFault t w Write = ⊥

-- what is wanted of the input's trace was written
pub record Writes (w : Wanted) (given : Option (List ℕ)) (limit : ℕ) (before after : Option (List ℕ)) : Type 0 where
  pub trace : Trace
  pub read : IsRead given limit trace
  pub text : List ℕ
  pub is : IsText (traced trace) w text
  pub wrote : Appends before after text

-- a beginning of it was written
pub record WritesPart (w : Wanted) (given : Option (List ℕ)) (limit : ℕ) (before after : Option (List ℕ)) : Type 0 where
  pub trace : Trace
  pub read : IsRead given limit trace
  pub done : List ℕ
  pub rest : List ℕ
  pub is : IsText (traced trace) w (done ++ rest)
  pub wrote : Appends before after done

-- the input's trace makes no kqueue at the place that is asked for
abbrev pub IsNotThere : Wanted → Option (List ℕ) → ℕ → ℕ → Type 0
IsNotThere w given limit at = (trace : Trace) × IsRead given limit trace × Names w at × ¬ IsBorn at (traced trace)

-- after the fault; but for Write nothing was written
abbrev pub LeavesBy : Fault → Wanted → Option (List ℕ) → ℕ → Option (List ℕ) → Option (List ℕ) → Type 0
LeavesBy Usage w given limit before after = ⊥
LeavesBy (NoKqueue at) w given limit before after = IsNotThere w given limit at × Keeps before after
LeavesBy Read w given limit before after = Keeps before after
LeavesBy (BadTrace line fault) w given limit before after =
    IsInputFault given limit (BadTrace line fault) × Keeps before after
LeavesBy Memory w given limit before after = Keeps before after
LeavesBy Write w given limit before after = WritesPart w given limit before after

-- A text that comes in blocks of whole lines, and what is known of it while more may come.
use Rattle.std.specs.Prelude.{◌≡◌, ◌<◌, ◌≤◌, ℕ, Bool, true, false, List, [], ◌∷◌}
use Rattle.std.specs.Prelude.{◌++◌, length, take}
use Rattle.std.specs.Io.KnownBytes.{IsAtEnd}
use Rattle.kq_model.specs.Limits.{IsVersion, most_records}
use Rattle.kq_model.specs.Lines.{line_feed}
use Rattle.kq_model.specs.declared.event.Event.{Event}
use Rattle.kq_model.specs.Reading.{Bad as BadLine, Good, reading}
use Rattle.kq_trace.specs.Rest.{lines_behind}
use Rattle.kq_trace.specs.Source.{Ahead, Gives, Had}
use Rattle.kq_trace.specs.declared.blocks.Blocks.{Blocks}
use Rattle.kq_trace.specs.declared.fault.TraceError.TheVariants.{Memory, Bad}
use Rattle.kq_trace.specs.declared.input_error.InputError.{InputError}
use Rattle.kq_trace.specs.declared.input_error.InputError.TheVariants.{Read, Trace}

-- nothing comes once all came
abbrev pub MayCome : Blocks → List ℕ → Type 0
MayCome b later = b.ended ≡ true → later ≡ []

-- all came only where the source is at its end, and then all of it is in blocks
abbrev pub EndsWith : Blocks → Ahead → Type 0
EndsWith b ahead = b.ended ≡ true → IsAtEnd ahead.known × (b.tail.items ≡ [])

-- nothing came yet
pub record HasNothing (b : Blocks) : Type 0 where
  pub tail : b.tail.items ≡ []
  pub not_ended : b.ended ≡ false

-- so many bytes came at the front of the chunk
pub record HasRead (before after : Ahead) (old new : Blocks) (count : ℕ) : Type 0 where
  pub given : Gives before after (take count new.chunk.bytes.items)
  pub within : count ≤ length new.chunk.bytes.items
  pub tail : new.tail.items ≡ old.tail.items
  pub none : count ≡ 0 → (new.ended ≡ true) × IsAtEnd after.known
  pub some : 0 < count → new.ended ≡ false

-- a line ends the text
abbrev pub EndsLine : List ℕ → Type 0
EndsLine text = (front : List ℕ) × (text ≡ front ++ line_feed ∷ [])

-- these bytes came behind a text and went there, or the first of them, up to the end of a line, and the others wait
pub record ArePut (came before after waiting : List ℕ) (whole : Bool) : Type 0 where
  pub split : before ++ came ≡ after ++ waiting
  pub line : whole ≡ true → EndsLine after
  pub some : whole ≡ true → 0 < length came
  pub none : whole ≡ false → waiting ≡ []

-- The source gave bytes more. The lines of the text are those of the block, and then those of what comes behind it.
pub record IsNextBlock (before after : Ahead) (old new : Blocks) (block : List ℕ) : Type 0 where
  pub more : List ℕ
  pub given : Gives before after more
  pub lines : (later : List ℕ) → MayCome new later
      → lines_behind (old.tail.items ++ (more ++ later)) ≡ lines_behind block
      ++ lines_behind (new.tail.items ++ later)
  -- only the last block is empty
  pub some : new.ended ≡ false → 0 < length block
  pub came : old.ended ≡ true → (more ≡ []) × (new.ended ≡ true)

-- Of the bytes that came so far this holds with whatever may come behind them.
pub record IsKnown (before after : Ahead) (b : Blocks) (P : List ℕ → Type 0) : Type 0 where
  pub given : List ℕ
  pub gave : Gives before after given
  pub holds : (later : List ℕ) → MayCome b later → P (given ++ later)

-- The text is no trace, and this is its first bad line. That memory is short says nothing of it, nor does a read that
-- fails.
abbrev pub IsInputFault : Type 0 → Ahead → InputError → Type 0
IsInputFault may_fail ahead Read = may_fail
IsInputFault may_fail ahead (Trace Memory) = Unit {0}
IsInputFault may_fail ahead (Trace (Bad line fault)) =
    (bytes : List ℕ) × Had ahead bytes × (reading bytes ≡ BadLine line fault)

-- the same of one that may not be at its end yet
abbrev pub IsFaultSoFar : Type 0 → Ahead → Ahead → Blocks → InputError → Type 0
IsFaultSoFar may_fail before after b Read = may_fail
IsFaultSoFar may_fail before after b (Trace Memory) = Unit {0}
IsFaultSoFar may_fail before after b (Trace (Bad line fault)) =
    IsKnown before after b (λ bytes. reading bytes ≡ BadLine line fault) × EndsWith b after

-- an error that is none of a line
abbrev pub IsNoLine : Type 0 → InputError → Type 0
IsNoLine may_fail Read = may_fail
IsNoLine may_fail (Trace Memory) = Unit {0}
IsNoLine may_fail (Trace (Bad line fault)) = ⊥

-- all came, of which these bytes are in no block
pub record IsDrained (before after : Ahead) (old new : Blocks) : Type 0 where
  pub more : List ℕ
  pub given : Gives before after more
  pub came : old.ended ≡ true → more ≡ []
  pub ended : new.ended ≡ true
  pub at_end : IsAtEnd after.known

-- the source is at its end, and all that it gave is this trace
pub record IsReadWhole (before after : Ahead) (b : Blocks) (version : ℕ) (events : List Event) : Type 0 where
  pub known : IsKnown before after b (λ bytes. reading bytes ≡ Good version events)
  pub ended : b.ended ≡ true
  pub ends : EndsWith b after
  pub version_known : IsVersion version
  pub few : length events ≤ most_records

-- the source had the text of this trace
pub record IsTraceOf (ahead : Ahead) (version : ℕ) (events : List Event) : Type 0 where
  pub bytes : List ℕ
  pub had : Had ahead bytes
  pub means : reading bytes ≡ Good version events
  pub version_known : IsVersion version
  pub few : length events ≤ most_records

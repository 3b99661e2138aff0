-- What answering leaves, by the bytes that the reader had and those that the writer got.
use Rattle.std.specs.Prelude.{◌≡◌, ◌⊎◌, ◌+◌, ◌^◌, ◌≤◌, ℕ, List, [], ◌∷◌, ◌++◌, length, Option, Ok, Err}
use Rattle.std.specs.Io.KnownBytes.{Appends, Keeps}
use Rattle.kq_input.specs.Unread.{most_read_bytes}
use Rattle.kq_model.specs.declared.line_fault.LineFault.{LineFault}
use Rattle.kq_model.specs.Reading.{version_on}
use Rattle.kq_step.specs.Given.{AreEnded, AreRead, AreWhole, BeginsWith, HasLines}
use Rattle.kq_step.specs.Laws.{HaveReport}
use Rattle.kq_step.specs.Stepping.{answered, ended}
use Rattle.kq_step.specs.declared.fault.Fault.{Fault}
use Rattle.kq_step.specs.declared.fault.Fault.TheVariants.{Usage, Read, Header, Memory, Write}

-- the header was read, and has this version
pub record IsOpened (given left : Option (List ℕ)) (version : ℕ) : Type 0 where
  pub header : List ℕ
  pub good : version_on header ≡ Ok version
  pub read : AreRead given (header ∷ []) left
  pub ended : AreEnded given left (header ∷ [])

-- the header has this fault
pub record IsBadHeader (given : Option (List ℕ)) (fault : LineFault) : Type 0 where
  pub header : List ℕ
  pub begins : BeginsWith given (header ∷ [])
  pub bad : version_on header ≡ Err fault

-- No header was read, with this fault. After a failed read no line was whole in what was taken; where memory was
-- refused, none but in the last bytes, no more than one read takes.
abbrev pub IsHeaderFault : Option (List ℕ) → Option (List ℕ) → Fault → Type 0
IsHeaderFault given left Usage = ⊥
IsHeaderFault given left Read = AreWhole given left [] []
IsHeaderFault given left (Header fault) = IsBadHeader given fault
IsHeaderFault given left Memory =
    (late : List ℕ) × (length late ≤ most_read_bytes) × AreWhole given left [] late
IsHeaderFault given left Write = ⊥

-- all lines of the input were answered, and the last line written; what was written obeys the laws of the answers
pub record WroteAll (given before after : Option (List ℕ)) : Type 0 where
  pub header : List ℕ
  pub lines : List (List ℕ)
  pub version : ℕ
  pub whole : HasLines given (header ∷ lines)
  pub good : version_on header ≡ Ok version
  pub wrote : Appends before after (ended (header ∷ lines))
  pub laws : HaveReport version lines

-- The first lines of the input were answered, and nothing else was written: those lines that were whole in what was
-- taken of it, but for these last bytes.
pub record WroteAnswers (given left before after : Option (List ℕ)) (late : List ℕ) : Type 0 where
  pub lines : List (List ℕ)
  pub begins : BeginsWith given lines
  pub whole : AreWhole given left lines late
  pub wrote : Appends before after (answered lines)

-- a beginning was written of the answers to the first lines of the input, and of the last line that would end them
pub record WrotePart (given before after : Option (List ℕ)) : Type 0 where
  pub lines : List (List ℕ)
  pub begins : BeginsWith given lines
  pub done : List ℕ
  pub rest : List ℕ
  pub cut : ended lines ≡ done ++ rest
  pub wrote : Appends before after done

-- After the fault, by what the input had and has, and by what the output had and has. A read failed: all lines that
-- were whole in what was taken are answered, unless so many were that there are no numbers for more. Memory was
-- refused: all but those that end in the last bytes, no more than one read takes.
abbrev pub LeavesBy : Option (List ℕ) → Option (List ℕ) → Option (List ℕ) → Option (List ℕ) → Fault → Type 0
LeavesBy given left before after Usage = ⊥
LeavesBy given left before after Read =
    (late : List ℕ) × (wrote : WroteAnswers given left before after late)
    × ((late ≡ []) ⊎ (2 ^ 64 ≤ length wrote.lines + 2))
LeavesBy given left before after (Header fault) = IsBadHeader given fault × Keeps before after
LeavesBy given left before after Memory =
    (late : List ℕ) × (length late ≤ most_read_bytes) × WroteAnswers given left before after late
LeavesBy given left before after Write = WrotePart given before after

-- The lines of answers, piece by piece.
use Rattle.std.proofs.Common.{◌≡◌, ℕ, List, ◌++◌, codes, refl, append_assoc}
use Rattle.std.specs.Prelude.{decimal}
use Rattle.json.specs.Print.{escape, escape_byte}
use Rattle.kq_model.specs.declared.line_fault.LineFault.{LineFault}
use Rattle.kq_model.specs.declared.line_fault.LineFault.TheVariants.{TooLong, Header, TooManyRecords, Json, Field, Range}
use Rattle.kq_model.specs.declared.reply.Reply.{Reply}
use Rattle.kq_model.specs.declared.reply.Reply.TheVariants.{Done, Events, Failed, Impossible}
use Rattle.kq_model.specs.FaultNames.{fault_name}
use Rattle.kq_model.specs.Report.{reply_line}
use Rattle.kq_model.specs.Spelling.{line_text, natural}
use Rattle.kq_step.specs.Stepping.{fault_line, place_line, replied_line}

pub place_line-is : (at : ℕ) → place_line at ≡ codes "{\"at\":" ++ (decimal at ++ codes "}\n")
unfolding place_line natural line_text escape_byte
place_line-is at = simp append_assoc

-- a fault's name has nothing to escape
escape-fault_name : (fault : LineFault) → escape (fault_name fault) ≡ fault_name fault
unfolding escape_byte
escape-fault_name TooLong = refl
escape-fault_name Header = refl
escape-fault_name TooManyRecords = refl
escape-fault_name Json = refl
escape-fault_name Field = refl
escape-fault_name Range = refl

pub fault_line-is : (line : ℕ) (fault : LineFault) → fault_line line fault
    ≡ codes "{\"line\":" ++ (decimal line ++ (codes ",\"fault\":\"" ++ (fault_name fault ++ codes "\"}\n")))
unfolding fault_line natural line_text escape_byte
fault_line-is line fault = simp (append_assoc, escape-fault_name)

-- what has a row is its line
pub row_line : (at : ℕ) (reply : Reply) → (reply ≡ Done → ⊥) → replied_line at reply ≡ reply_line at reply
unfolding replied_line
row_line at Done other = absurd (other refl)
row_line at (Events events) other = refl
row_line at (Failed e) other = refl
row_line at (Impossible why) other = refl

pub no_row : (at : ℕ) (reply : Reply) → reply ≡ Done → replied_line at reply ≡ place_line at
unfolding replied_line
no_row at reply is = rw is refl

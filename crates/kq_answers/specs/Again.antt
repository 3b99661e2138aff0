-- What the rows of a report say when they are read as answers.
use Rattle.std.specs.Prelude.{◌≡◌, ℕ, ◌^◌, ◌<◌, List, [], ◌∷◌, Ok, codes}
use Rattle.std.specs.Int.RustNames.{bit_and}
use Rattle.bitflags.specs.Sets.{known_bits}
use Rattle.serde_json.specs.Data.{Data, null, string}
use Rattle.serde_json.specs.Written.{compact_text}
use Rattle.kq_model.specs.declared.kevent.Kevent.{Kevent}
use Rattle.kq_model.specs.declared.reply.Reply.{Reply}
use Rattle.kq_model.specs.declared.reply.Reply.TheVariants as reply
use Rattle.kq_model.specs.Errno.{error_number}
use Rattle.kq_model.specs.FlagNames.{flag_table}
use Rattle.kq_model.specs.Names.{why_name}
use Rattle.kq_model.specs.Report.{events_data, row_data}
use Rattle.kq_model.specs.Spelling.{natural}
use Rattle.kq_spell.specs.Again.{FitsInteger}
use Rattle.kq_answers.specs.declared.answer.AnswerLine.TheVariants as line
use Rattle.kq_answers.specs.declared.answer.Given.{Given}
use Rattle.kq_answers.specs.declared.answer.Given.TheVariants.{Events, Failed, Impossible}
use Rattle.kq_answers.specs.AnswerText.{answer_on}

-- the value of the row of a reply; its line is the text of this value, and a line feed
unfoldable pub row_value : ℕ → Reply → Data
row_value at reply.Done = null
row_value at (reply.Events events) = row_data at (codes "events") (events_data events)
row_value at (reply.Failed e) = row_data at (codes "failed") (natural (error_number e))
row_value at (reply.Impossible why) = row_data at (codes "impossible") (string (why_name why))

-- it is what the row of the reply says; a record that was only done has none
abbrev pub IsGiven : Reply → Given → Type 0
IsGiven (reply.Events events) given = given ≡ Events events
IsGiven (reply.Failed e) given = given ≡ Failed (error_number e)
IsGiven (reply.Impossible why) given = given ≡ Impossible why
IsGiven reply.Done given = ⊥

-- what every event of a program has: its numbers are in the ranges of their types, and its flags have names
pub record FitsKevent (e : Kevent) : Type 0 where
  pub ident : e.ident < 2 ^ 64
  pub fflags : e.fflags < 2 ^ 32
  pub datum : FitsInteger e.datum
  pub udata : e.udata < 2 ^ 64
  pub named : bit_and e.flags.0 (known_bits flag_table) ≡ e.flags.0

abbrev pub FitKevents : List Kevent → Type 0
FitKevents [] = Unit {0}
FitKevents (e ∷ es) = FitsKevent e × FitKevents es

abbrev pub FitsReply : Reply → Type 0
FitsReply (reply.Events events) = FitKevents events
FitsReply _ = Unit {0}

-- the row of a reply, without its line feed, is read as what it says
abbrev pub RowsAreReadAgain : ℕ → List ℕ → Type 0
RowsAreReadAgain number bytes =
    (at : ℕ) (r : Reply) (given : Given) → at < 2 ^ 32 → FitsReply r → IsGiven r given
    → bytes ≡ compact_text (row_value at r)
    → answer_on number bytes ≡ Ok (line.Answer (record { line = number; at = at; given = given }))

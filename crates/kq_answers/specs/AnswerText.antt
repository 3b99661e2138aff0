-- A line of answers: an object with at and one of events, failed and impossible, or the three members of the line that
-- ends a report. An event is spelled as a change is: fflags, data and udata are 0 where they are missing. An error has
-- any number (this project's choice).
use Rattle.std.specs.Prelude.{ℕ, ◌==◌, Bool, ◌&&◌, List, map, codes, Option, Some, None, option_map}
use Rattle.std.specs.Prelude.{option_and_then, Result, Ok, Err, if◌then◌else◌}
use Rattle.serde_json.specs.Data.{Data}
use Rattle.serde_json.specs.Find.{get, as_str}
use Rattle.kq_model.specs.declared.change.Change.{Change}
use Rattle.kq_model.specs.declared.kevent.Kevent.{Kevent}
use Rattle.kq_model.specs.declared.line_fault.LineFault.{LineFault}
use Rattle.kq_model.specs.declared.line_fault.LineFault.TheVariants.{Json, Field, Range}
use Rattle.kq_model.specs.declared.why.Why.{Why}
use Rattle.kq_model.specs.declared.why.Why.TheVariants as why
use Rattle.kq_model.specs.ChangeText.{change_list, is_change_list}
use Rattle.kq_model.specs.Members.{is_whole, required, shaped, u32_in, u64_in, width}
use Rattle.kq_model.specs.Names.{is_text}
use Rattle.kq_model.specs.Reading.{json_of}
use Rattle.kq_answers.specs.declared.answer.AnswerLine.{AnswerLine}
use Rattle.kq_answers.specs.declared.answer.AnswerLine.TheVariants as line
use Rattle.kq_answers.specs.declared.answer.Given.{Given}
use Rattle.kq_answers.specs.declared.answer.Given.TheVariants.{Events, Failed, Impossible}

-- ---- what was answered

abbrev pub kevent_of : Change → Kevent
kevent_of c = record {
  ident = c.ident;
  filter = c.filter;
  flags = c.flags;
  fflags = c.fflags;
  datum = c.datum;
  udata = c.udata;
}

unfoldable pub returned_in : Data → Result Given LineFault
returned_in d = shaped (is_change_list d) (option_map (λ changes. Events (map kevent_of changes)) (change_list d))

unfoldable pub failed_in : Data → Result Given LineFault
failed_in d = shaped (is_whole d) (option_map Failed (u32_in d))

-- the reason of this name
unfoldable pub why_named : List ℕ → Option Why
why_named name =
    if is_text name (codes "NoProcess") then Some why.NoProcess
    else if is_text name (codes "UsedPid") then Some why.UsedPid
    else if is_text name (codes "NoDescriptor") then Some why.NoDescriptor
    else if is_text name (codes "UsedDescriptor") then Some why.UsedDescriptor
    else if is_text name (codes "WrongKind") then Some why.WrongKind
    else if is_text name (codes "Absent") then Some why.Absent
    else if is_text name (codes "UsedFile") then Some why.UsedFile
    else if is_text name (codes "ClockBack") then Some why.ClockBack
    else if is_text name (codes "TooMany") then Some why.TooMany
    else None

unfoldable pub impossible_by : Option Why → Result Given LineFault
impossible_by (Some w) = Ok (Impossible w)
impossible_by None = Err Field

unfoldable pub impossible_in : Data → Result Given LineFault
impossible_in d = impossible_by (option_and_then why_named (as_str d))

-- by the member that is there
unfoldable pub given_by : Option Data → Option Data → Option Data → Result Given LineFault
given_by (Some events) failed impossible = returned_in events
given_by None (Some failed) impossible = failed_in failed
given_by None None (Some impossible) = impossible_in impossible
given_by None None None = Err Field

unfoldable pub given_in : Data → Result Given LineFault
given_in d = given_by (get (codes "events") d) (get (codes "failed") d) (get (codes "impossible") d)

-- ---- a line

-- the line that ends a report
unfoldable pub is_counts : Data → Bool
is_counts d =
    required is_whole (get (codes "calls") d) && (required is_whole (get (codes "events") d)
    && (required is_whole (get (codes "records") d) && (width d == 3)))

-- a place, and one member more
unfoldable pub has_place : Data → Bool
has_place d = required is_whole (get (codes "at") d) && (width d == 2)

unfoldable pub answered_at : ℕ → Option ℕ → Result Given LineFault → Result AnswerLine LineFault
answered_at number place (Err fault) = Err fault
answered_at number None (Ok given) = Err Range
answered_at number (Some place) (Ok given) = Ok (line.Answer (record { line = number; at = place; given = given }))

unfoldable pub answer_in : ℕ → Data → Result AnswerLine LineFault
answer_in number d =
    if is_counts d then Ok line.Counts
    else if has_place d then answered_at number (option_and_then u64_in (get (codes "at") d)) (given_in d)
    else Err Field

unfoldable pub answer_of : ℕ → Option Data → Result AnswerLine LineFault
answer_of number None = Err Json
answer_of number (Some d) = answer_in number d

-- the line of this number
unfoldable pub answer_on : ℕ → List ℕ → Result AnswerLine LineFault
answer_on number bytes = answer_of number (json_of bytes)

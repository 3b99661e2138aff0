-- The row of a reply is read as what it says.
use Rattle.std.proofs.Common.{◌≡◌, ℕ, ◌^◌, ◌<◌, List, [], ◌∷◌, map, codes, Some, Ok, refl, ap, ◌∙◌, ◌≤◌, arith}
use Rattle.serde_json.proofs.OnLiterals.{serde_json_on_literals}
use Rattle.serde_json.specs.Data.{Data, object}
use Rattle.serde_json.specs.Read.{of_json}
use Rattle.serde_json.specs.Written.{compact_text, outline}
use Rattle.json.specs.Tree.{HasNumbers, depth}
use Rattle.kq_model.specs.declared.change.Change.{Change}
use Rattle.kq_model.specs.declared.errno.Errno.{Errno}
use Rattle.kq_model.specs.declared.errno.Errno.TheVariants.{ENOENT, ESRCH, EBADF, EINVAL}
use Rattle.kq_model.specs.declared.kevent.Kevent.{Kevent}
use Rattle.kq_model.specs.declared.reply.Reply.TheVariants as reply
use Rattle.kq_model.specs.declared.why.Why.{Why}
use Rattle.kq_model.specs.declared.why.Why.TheVariants.{NoProcess, UsedPid, NoDescriptor, UsedDescriptor, WrongKind, Absent, UsedFile, ClockBack, TooMany}
use Rattle.kq_model.specs.ChangeText.{change_list, is_change_list}
use Rattle.kq_model.specs.Errno.{error_number}
use Rattle.kq_model.specs.Members.{is_whole, member_count, required, shaped, u64_in, width}
use Rattle.kq_model.specs.Names.{why_name}
use Rattle.kq_model.specs.Reading.{json_of}
use Rattle.kq_model.specs.Report.{events_data, kevent_data, row_data}
use Rattle.kq_model.specs.Spelling.{Changes, Number, change_data, members_data, natural}
use Rattle.kq_spell.specs.Again.{FitsChanges, HaveNamedFlags}
use Rattle.kq_spell.proofs.EventAgain.{are_changes_again, changes_again, u32_again}
use Rattle.kq_spell.proofs.ReadsBack.{changes_depth, changes_numbers, changes_read, json_of_read, natural_is, natural_read, value_read}
use Rattle.kq_spell.proofs.Visible.{DataSeen, data_seen, members_data_seen, name_seen, visible_utf8}
use Rattle.kq_answers.specs.declared.answer.Answer.{Answer}
use Rattle.kq_answers.specs.declared.answer.AnswerLine.TheVariants as line
use Rattle.kq_answers.specs.declared.answer.Given.{Given}
use Rattle.kq_answers.specs.declared.answer.Given.TheVariants.{Events, Failed, Impossible}
use Rattle.kq_answers.specs.AnswerText.{answer_in, answer_of, answer_on, answered_at, failed_in, given_by, given_in, has_place, impossible_by, impossible_in, is_counts, kevent_of, returned_in, why_named}
use Rattle.kq_answers.specs.Again.{FitKevents, RowsAreReadAgain, row_value}

-- ---- an event is spelled as a change is

change_as : Kevent → Change
change_as e = record { ident = e.ident; filter = e.filter; flags = e.flags; fflags = e.fflags; datum = e.datum; udata = e.udata }

spelled : (es : List Kevent) → map kevent_data es ≡ map change_data (map change_as es)
unfolding kevent_data change_data change_as
spelled [] = refl
spelled (e ∷ es) = rw (spelled es) refl

back : (es : List Kevent) → map kevent_of (map change_as es) ≡ es
unfolding change_as
back [] = refl
back (e ∷ es) = rw (back es) refl

fit : (es : List Kevent) → FitKevents es → FitsChanges (map change_as es)
unfolding change_as
fit [] fits = tt
fit (e ∷ es) fits =
    (record { ident = fits.0.ident; fflags = fits.0.fflags; datum = fits.0.datum; udata = fits.0.udata }, fit es fits.1)

named : (es : List Kevent) → FitKevents es → HaveNamedFlags (map change_as es)
unfolding change_as
named [] fits = tt
named (e ∷ es) fits = (fits.0.named, named es fits.1)

-- ---- a value that is read again, and what it says

small : (n : ℕ) → n < 2 ^ 32 → n < 2 ^ 64
small n fits = omega arith

place_seen : (at : ℕ) → at < 2 ^ 32 → DataSeen (natural at)
unfolding natural
place_seen at fits = (members_data_seen ((codes "at", Number at) ∷ []) (refl, fits, tt)).1

-- the text of a value that is visible and not deep gives the value
json_again : (d : Data) → DataSeen d → HasNumbers (outline d) → depth (outline d) ≤ 127 → of_json (outline d) ≡ Some d
    → json_of (compact_text d) ≡ Some d
json_again d seen numbers shallow means =
    json_of_read (compact_text d) d (visible_utf8 (compact_text d) (data_seen d seen)) (value_read d numbers shallow means)

-- a line that is the text of a value, of which it is known what it says
says : (number : ℕ) (bytes : List ℕ) (d : Data) (a : Answer) → json_of (compact_text d) ≡ Some d → bytes ≡ compact_text d
    → answer_in number d ≡ Ok (line.Answer a) → answer_on number bytes ≡ Ok (line.Answer a)
unfolding answer_on answer_of
says number bytes d a again is means = ap (λ text. answer_of number (json_of text)) is ∙ ap (answer_of number) again ∙ means

-- ---- events

events_value : ℕ → List Change → Data
events_value at cs = object (members_data ((codes "at", Number at) ∷ (codes "events", Changes cs) ∷ []))

as_members : (at : ℕ) (es : List Kevent) → row_value at (reply.Events es) ≡ events_value at (map change_as es)
unfolding row_value row_data events_data events_value
as_members at es = rw (spelled es) refl

events_depth : (at : ℕ) (cs : List Change) → depth (outline (events_value at cs)) ≤ 127
unfolding events_value natural
events_depth at cs = omega (arith, changes_depth cs)

events_json : (at : ℕ) (cs : List Change) → at < 2 ^ 32 → FitsChanges cs
    → json_of (compact_text (events_value at cs)) ≡ Some (events_value at cs)
unfolding events_value natural
events_json at cs fits all =
    let shallow : depth (outline (events_value at cs)) ≤ 127 = events_depth at cs in
    json_again (events_value at cs) (members_data_seen ((codes "at", Number at) ∷ (codes "events", Changes cs) ∷ []) (refl, fits, (refl, all, tt)))
    (natural_is at (small at fits), (changes_numbers cs all, tt)) shallow (rw (natural_read at (small at fits), changes_read cs all) refl)

events_mean : (number at : ℕ) (es : List Kevent) → FitKevents es
    → answer_in number (events_value at (map change_as es))
    ≡ Ok (line.Answer (record { line = number; at = at; given = Events es }))
unfolding events_value answer_in is_counts has_place required is_whole width member_count natural u64_in given_in given_by answered_at returned_in is_change_list change_list shaped
events_mean number at es fits =
    rw (are_changes_again (map change_as es) (named es fits), changes_again (map change_as es) (fit es fits) (named es fits), back es) refl

-- ---- errors

number_small : (e : Errno) → error_number e < 2 ^ 32
number_small ENOENT = omega arith
number_small ESRCH = omega arith
number_small EBADF = omega arith
number_small EINVAL = omega arith

failed_value : ℕ → ℕ → Data
failed_value at n = object (members_data ((codes "at", Number at) ∷ (codes "failed", Number n) ∷ []))

failed_members : (at : ℕ) (e : Errno) → row_value at (reply.Failed e) ≡ failed_value at (error_number e)
unfolding row_value row_data failed_value
failed_members at e = refl

failed_json : (at n : ℕ) → at < 2 ^ 32 → n < 2 ^ 32 → json_of (compact_text (failed_value at n)) ≡ Some (failed_value at n)
unfolding failed_value natural
failed_json at n fits fits_n =
    let shallow : depth (outline (failed_value at n)) ≤ 127 = omega arith in
    json_again (failed_value at n) (members_data_seen ((codes "at", Number at) ∷ (codes "failed", Number n) ∷ []) (refl, fits, (refl, fits_n, tt)))
    (natural_is at (small at fits), (natural_is n (small n fits_n), tt)) shallow (rw (natural_read at (small at fits), natural_read n (small n fits_n)) refl)

failed_means : (number at n : ℕ) → n < 2 ^ 32
    → answer_in number (failed_value at n) ≡ Ok (line.Answer (record { line = number; at = at; given = Failed n }))
unfolding failed_value answer_in is_counts has_place required is_whole width member_count natural u64_in given_in given_by answered_at failed_in shaped
failed_means number at n fits = rw (u32_again n fits) refl

-- ---- reasons

why_seen : (w : Why) → name_seen (why_name w)
unfolding serde_json_on_literals
why_seen NoProcess = refl
why_seen UsedPid = refl
why_seen NoDescriptor = refl
why_seen UsedDescriptor = refl
why_seen WrongKind = refl
why_seen Absent = refl
why_seen UsedFile = refl
why_seen ClockBack = refl
why_seen TooMany = refl

impossible_seen : name_seen (codes "impossible")
unfolding serde_json_on_literals
impossible_seen = refl

at_seen : name_seen (codes "at")
unfolding serde_json_on_literals
at_seen = refl

why_again : (w : Why) → why_named (why_name w) ≡ Some w
unfolding why_named
why_again NoProcess = refl
why_again UsedPid = refl
why_again NoDescriptor = refl
why_again UsedDescriptor = refl
why_again WrongKind = refl
why_again Absent = refl
why_again UsedFile = refl
why_again ClockBack = refl
why_again TooMany = refl

why_json : (at : ℕ) (w : Why) → at < 2 ^ 32
    → json_of (compact_text (row_value at (reply.Impossible w))) ≡ Some (row_value at (reply.Impossible w))
unfolding row_value row_data natural
why_json at w fits =
    let shallow : depth (outline (row_value at (reply.Impossible w))) ≤ 127 = omega arith in
    json_again (row_value at (reply.Impossible w)) (at_seen, place_seen at fits, (impossible_seen, why_seen w, tt))
    (natural_is at (small at fits), (tt, tt)) shallow (rw (natural_read at (small at fits)) refl)

why_means : (number at : ℕ) (w : Why)
    → answer_in number (row_value at (reply.Impossible w)) ≡ Ok (line.Answer (record { line = number; at = at; given = Impossible w }))
unfolding row_value row_data answer_in is_counts has_place required is_whole width member_count natural u64_in given_in given_by answered_at impossible_in impossible_by
why_means number at w = rw (why_again w) refl

-- ---- all rows

given_there : (number at : ℕ) (bytes : List ℕ) (a b : Given) → b ≡ a
    → answer_on number bytes ≡ Ok (line.Answer (record { line = number; at = at; given = a }))
    → answer_on number bytes ≡ Ok (line.Answer (record { line = number; at = at; given = b }))
given_there number at bytes a b is says = rw is says

pub rows_again : (number : ℕ) (bytes : List ℕ) → RowsAreReadAgain number bytes
rows_again number bytes at reply.Done given fits all is text = absurd is
rows_again number bytes at (reply.Events es) given fits all is text =
    given_there number at bytes (Events es) given is
    (says number bytes (events_value at (map change_as es)) _ (events_json at (map change_as es) fits (fit es all))
    (text ∙ ap compact_text (as_members at es)) (events_mean number at es all))
rows_again number bytes at (reply.Failed e) given fits all is text =
    given_there number at bytes (Failed (error_number e)) given is
    (says number bytes (failed_value at (error_number e)) _ (failed_json at (error_number e) fits (number_small e))
    (text ∙ ap compact_text (failed_members at e)) (failed_means number at (error_number e) (number_small e)))
rows_again number bytes at (reply.Impossible w) given fits all is text =
    given_there number at bytes (Impossible w) given is
    (says number bytes (row_value at (reply.Impossible w)) _ (why_json at w fits) text (why_means number at w))

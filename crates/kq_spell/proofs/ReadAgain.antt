-- Reading the canonical text gives its trace again.
use Rattle.std.proofs.Common.{◌≡◌, ℕ, zero, suc, ◌+◌, ◌^◌, ◌<◌, ◌≤◌, ◌==◌, Bool, true, false, not, ◌&&◌, List, [], ◌∷◌, ◌++◌, length, take, get_or, Ok, Some, refl, sym, ap, ◌∙◌, append_assoc, subst, add-one, arith}
use Rattle.std.proofs.lemmas.Bool.{le-ltb}
use Rattle.std.proofs.lemmas.List.{take_all}
use Rattle.std.specs.Fmt.{digits}
use Rattle.serde_json.proofs.OnLiterals.{serde_json_on_literals}
use Rattle.serde_json.specs.Written.{compact_text}
use Rattle.kq_model.specs.declared.event.Event.{Event}
use Rattle.kq_model.specs.Limits.{IsVersion}
use Rattle.kq_model.specs.Lines.{lines_among, lines_of, onto_first, pieces_of, without_empty_end}
use Rattle.kq_model.specs.Reading.{Good, behind_header, header_version, joined, read_lines, read_records, reading, record_on, with_event}
use Rattle.kq_model.specs.Spelling.{header_data, line_text, natural, record_data, records_text, spelling}
use Rattle.kq_spell.specs.Again.{ArePlain, CanBeReadAgain, FitsRecord, IsPlain}
use Rattle.kq_spell.proofs.EventAgain.{event_again, first_header_again, second_header_again}
use Rattle.kq_spell.proofs.ReadsBack.{header_reads_back, record_reads_back}
use Rattle.kq_spell.proofs.Visible.{has_no_feed, header_visible, record_visible, visible_no_feed}
use Rattle.kq_spell.proofs.Lines.{keeps, right_header}

-- each number of the records is in the range of its type
abbrev pub FitRecords : List Event → Type 0
FitRecords [] = Unit {0}
FitRecords (e ∷ es) = FitsRecord e × FitRecords es

-- ---- lines

parts : (a b : Bool) → (not a && b) ≡ true → (a ≡ false) × (b ≡ true)
parts true b h = cc
parts false b h = (refl, h)

line_piece : (line rest : List ℕ) → has_no_feed line ≡ true → pieces_of (line ++ 10 ∷ rest) ≡ line ∷ pieces_of rest
unfolding pieces_of onto_first
line_piece [] rest clear = refl
line_piece (x ∷ line) rest clear =
    let p = parts (x == 10) (has_no_feed line) clear in rw (p.0, line_piece line rest p.1) refl

line_behind : (line rest : List ℕ) → has_no_feed line ≡ true
    → without_empty_end (pieces_of ((line ++ 10 ∷ []) ++ rest)) ≡ line ∷ without_empty_end (pieces_of rest)
line_behind line rest clear =
    ap (λ text. without_empty_end (pieces_of text)) (append_assoc line (10 ∷ []) rest)
    ∙ ap without_empty_end (line_piece line rest clear) ∙ keeps line rest

line_first : (line rest : List ℕ) → has_no_feed line ≡ true
    → lines_of ((line ++ 10 ∷ []) ++ rest) ≡ line ∷ without_empty_end (pieces_of rest)
unfolding lines_of lines_among
line_first line rest clear =
    ap (λ text. lines_among (pieces_of text)) (append_assoc line (10 ∷ []) rest) ∙ ap lines_among (line_piece line rest clear)

-- ---- records

record_means : (number : ℕ) (e : Event) → number ≤ 1000001 → FitsRecord e → IsPlain e
    → record_on number (compact_text (record_data e)) ≡ Ok e
unfolding record_on
record_means number e early fits plain =
    rw (le-ltb (2 ^ 20) (length (compact_text (record_data e))) plain.2, le-ltb 1000001 number early, record_reads_back e fits, event_again e fits plain.0 plain.1) refl

records_again : (version number : ℕ) (events : List Event) → number + length events ≤ 1000002 → FitRecords events → ArePlain events
    → read_records version number (without_empty_end (pieces_of (records_text events))) ≡ Good version events
unfolding read_records records_text joined with_event line_text pieces_of without_empty_end
records_again version number [] room fits plain = refl
records_again version number (e ∷ es) room fits plain =
    let early : number ≤ 1000001 = omega arith in
    let room_behind : number + 1 + length es ≤ 1000002 = omega arith in
    ap (read_records version number) (line_behind (compact_text (record_data e)) (records_text es) (visible_no_feed (compact_text (record_data e)) (record_visible e fits.0)))
    ∙ ap (λ m. joined number m (read_records version (number + 1) (without_empty_end (pieces_of (records_text es))))) (record_means number e early fits.0 plain.0)
    ∙ ap (with_event e) (records_again version (number + 1) es room_behind fits.1 plain.1)

-- ---- the whole

first_header_short : length (compact_text (header_data 1)) ≤ 2 ^ 20
unfolding header_data natural digits serde_json_on_literals
first_header_short = omega arith

second_header_short : length (compact_text (header_data 2)) ≤ 2 ^ 20
unfolding header_data natural digits serde_json_on_literals
second_header_short = omega arith

read_at : (version : ℕ) (events : List Event) → version < 2 ^ 64 → length (compact_text (header_data version)) ≤ 2 ^ 20
    → header_version (Some (header_data version)) ≡ Some version → FitRecords events → CanBeReadAgain events
    → reading (spelling version events) ≡ Good version events
unfolding reading read_lines behind_header spelling line_text
read_at version events small short again fits can =
    ap read_lines (line_first (compact_text (header_data version)) (records_text events) (visible_no_feed (compact_text (header_data version)) (header_visible version small)))
    ∙ ap (λ m. behind_header m (without_empty_end (pieces_of (records_text events))))
    (right_header (compact_text (header_data version)) version short (sym (ap header_version (header_reads_back version small) ∙ again)))
    ∙ records_again version 2 events (omega (arith, can.count)) fits can.plain

pub read_again : (version : ℕ) (events : List Event) → IsVersion version → FitRecords events → CanBeReadAgain events
    → reading (spelling version events) ≡ Good version events
read_again zero events known fits can = absurd (omega (arith, known.0))
read_again (suc zero) events known fits can = read_at 1 events (omega arith) first_header_short first_header_again fits can
read_again (suc (suc zero)) events known fits can = read_at 2 events (omega arith) second_header_short second_header_again fits can
read_again (suc (suc (suc n))) events known fits can = absurd (omega (arith, known.1))

-- ---- one event more

more : (events : List Event) (i : ℕ) (event : Event) → i < length events → event ≡ get_or events i event
    → FitRecords (take i events) → FitsRecord event → FitRecords (take (suc i) events)
more [] i event lt is so_far new = absurd (omega arith)
more (e ∷ es) zero event lt is so_far new = (subst FitsRecord is new, tt)
more (e ∷ es) (suc i) event lt is so_far new = (so_far.0, more es i event (omega arith) is so_far.1 new)

pub fits_more : (events : List Event) (i : ℕ) (event : Event) → i < length events → event ≡ get_or events i event
    → FitRecords (take i events) → FitsRecord event → FitRecords (take (i + 1) events)
fits_more events i event lt is so_far new = rw (add-one i) (more events i event lt is so_far new)

pub fits_all : (events : List Event) (i : ℕ) → length events ≤ i → FitRecords (take i events) → FitRecords events
fits_all events i end so_far = subst FitRecords (take_all i events end) so_far

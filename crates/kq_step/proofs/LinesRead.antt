-- The lines of an input that were read so far, and what is left of it.
use Rattle.std.proofs.Common.{◌≡◌, ◌∙◌, ℕ, ◌+◌, ◌<◌, ◌≤◌, Bool, true, false, ◌==◌, cond, List, [], ◌∷◌, ◌++◌, length, take, Option, None, Some, Result, Ok, Err, refl, sym, ap, subst, arith, append_assoc, append-nil, take_all, true≢false, ltb, inl, inr, length-append}
use Rattle.std.proofs.lemmas.Bool.{lt-ltb, ltb-false, ltb-true}
use Rattle.std.proofs.lemmas.List.{length-take}
use Rattle.kq_model.specs.declared.line_fault.LineFault.TheVariants.{Header, TooLong}
use Rattle.kq_model.specs.declared.line_fault.LineFault.{LineFault}
use Rattle.kq_model.proofs.ReadingOpened.{reading_opened}
use Rattle.kq_input.specs.declared.lines.LinesError.{LinesError}
use Rattle.kq_input.specs.declared.lines.LinesError.TheVariants as error
use Rattle.kq_step.specs.declared.fault.Fault.TheVariants as fault_kind
use Rattle.kq_step.specs.Answering.{IsBadHeader, IsHeaderFault, IsOpened}
use Rattle.kq_step.specs.Fault.{fault_of}
use Rattle.std.specs.Io.KnownBytes.{Consumes, IsAtEnd, Keeps, prepend_known}
use Rattle.std.proofs.KnownBytes.{Consumes-nil, Consumes-trans}
use Rattle.kq_input.specs.Unread.{IsLastLine, TookLine, TookPart, has_line_feed, lines_left}
use Rattle.kq_input.proofs.LineFeeds.{cut, line_taken, nothing_yet, took_kept, uncut}
use Rattle.kq_model.specs.Limits.{most_line_bytes, most_records}
use Rattle.kq_model.specs.Lines.{lines_among, lines_of, onto_first, pieces_of, without_empty_end}
use Rattle.kq_model.specs.Reading.{event_of, header_of, header_version, json_of, record_on, version_on}
use Rattle.kq_step.specs.Given.{AreAll, AreEnded, AreRead, AreWhole, BeginsWith, HasLines, whole_lines, without_last}

-- ---- a line of which only the first bytes were kept is read as the whole

too_long : (number : ℕ) (line : List ℕ) → 1048576 < length line → record_on number line ≡ Err TooLong
unfolding record_on
too_long number line long = rw (lt-ltb 1048576 (length line) long) refl

too_long_header : (line : List ℕ) → 1048576 < length line → version_on line ≡ Err TooLong
unfolding version_on
too_long_header line long = rw (lt-ltb 1048576 (length line) long) refl

still_long : (line : List ℕ) → 1048576 < length line → 1048576 < length (take 1048577 line)
still_long line long = omega (arith, long, length-take 1048577 line)

is_short : (line : List ℕ) → length line ≤ 1048576 → take 1048577 line ≡ line
is_short line short = take_all 1048577 line (omega (arith, short))

record_if : (b : Bool) (number : ℕ) (line : List ℕ) → ltb 1048576 (length line) ≡ b → record_on number (take 1048577 line) ≡ record_on number line
record_if true number line is =
    let long = ltb-true 1048576 (length line) is in
    too_long number (take 1048577 line) (still_long line long) ∙ sym (too_long number line long)
record_if false number line is = ap (record_on number) (is_short line (ltb-false 1048576 (length line) is))

pub record_kept : (number : ℕ) (line : List ℕ) → record_on number (take 1048577 line) ≡ record_on number line
record_kept number line = record_if (ltb 1048576 (length line)) number line refl

version_if : (b : Bool) (line : List ℕ) → ltb 1048576 (length line) ≡ b → version_on (take 1048577 line) ≡ version_on line
version_if true line is =
    let long = ltb-true 1048576 (length line) is in
    too_long_header (take 1048577 line) (still_long line long) ∙ sym (too_long_header line long)
version_if false line is = ap version_on (is_short line (ltb-false 1048576 (length line) is))

pub version_kept : (line : List ℕ) → version_on (take 1048577 line) ≡ version_on line
version_kept line = version_if (ltb 1048576 (length line)) line refl

-- ---- the first line

-- an input whose lines are these begins with them
pub begins : (given left : Option (List ℕ)) (lines : List (List ℕ)) → AreRead given lines left → BeginsWith given lines
begins None left lines read = tt
begins (Some text) None lines read = absurd read
begins (Some text) (Some rest) lines read = (lines_left rest, read)

no_lines : lines_left [] ≡ []
unfolding lines_left pieces_of without_empty_end
no_lines = refl

-- at its end these are all
pub all_read : (given left : Option (List ℕ)) (lines : List (List ℕ)) → AreRead given lines left → IsAtEnd left → HasLines given lines
all_read None left lines read end = tt
all_read (Some text) None lines read end = absurd read
all_read (Some text) (Some rest) lines read end = read ∙ ap (λ l. lines ++ lines_left l) end ∙ ap (λ l. lines ++ l) no_lines ∙ append-nil lines

some_if : (c : Bool) (b : ℕ) (pieces : List (List ℕ)) → (q : List ℕ) × (qs : List (List ℕ)) × (cond c ([] ∷ pieces) (onto_first b pieces) ≡ q ∷ qs)
unfolding onto_first
some_if true b pieces = ([], pieces, refl)
some_if false b [] = (b ∷ [], [], refl)
some_if false b (piece ∷ pieces) = (b ∷ piece, pieces, refl)

any_piece : (text : List ℕ) → (q : List ℕ) × (qs : List (List ℕ)) × (pieces_of text ≡ q ∷ qs)
unfolding pieces_of
any_piece [] = ([], [], refl)
any_piece (b ∷ bs) = some_if (b == 10) b (pieces_of bs)

-- a text that is not empty has the same lines where it is the first
same_if : (c : Bool) (b : ℕ) (bs : List ℕ) → lines_among (cond c ([] ∷ pieces_of bs) (onto_first b (pieces_of bs)))
    ≡ without_empty_end (cond c ([] ∷ pieces_of bs) (onto_first b (pieces_of bs)))
unfolding onto_first without_empty_end lines_among
same_if true b bs = let some = any_piece bs in rw some.2 refl
same_if false b bs = let some = any_piece bs in rw some.2 refl

has_lines : List (List ℕ) → Bool
has_lines [] = false
has_lines (line ∷ lines) = true

first_lines : (text line : List ℕ) (more : List (List ℕ)) → lines_left text ≡ line ∷ more → lines_of text ≡ line ∷ more
unfolding lines_of lines_left pieces_of has_lines
first_lines [] line more is = absurd (true≢false (sym (ap has_lines (sym no_lines ∙ is))))
first_lines (b ∷ bs) line more is = same_if (b == 10) b bs ∙ is

-- the first line of an input was read
header_read : (given left : Option (List ℕ)) (line : List ℕ) → (took : TookLine 1048577 given left line)
    → AreRead given (took.whole ∷ []) left × (version_on line ≡ version_on took.whole)
header_read None left line took = (tt, ap version_on took.kept ∙ version_kept took.whole)
header_read (Some text) None line took = elim took.gone [ inl gone ↦ absurd gone | inr last ↦ absurd last.1 ]
header_read (Some text) (Some rest) line took =
    (first_lines text took.whole (lines_left rest) (line_taken 1048577 text rest line took), ap version_on took.kept ∙ version_kept took.whole)

one_empty : lines_of [] ≡ [] ∷ []
unfolding lines_of lines_among pieces_of without_empty_end
one_empty = refl

-- an input without a byte has an empty line
empty_header : (given left : Option (List ℕ)) → IsLastLine given left → BeginsWith given ([] ∷ [])
empty_header None left end = tt
empty_header (Some text) left end = ([], ap lines_of end.0 ∙ one_empty)

bad_empty : version_on [] ≡ Err Header
unfolding reading_opened
bad_empty = refl

is_good : Result ℕ LineFault → Bool
is_good (Ok version) = true
is_good (Err fault) = false

no_version : (version : ℕ) → version_on [] ≡ Ok version → ⊥
unfolding is_good
no_version version is = true≢false (sym (ap is_good (sym bad_empty ∙ is)))

-- ---- lines, each with the line feed that ended it

pub nothing_taken : (given : Option (List ℕ)) → AreEnded given given []
nothing_taken given = inl ([], Consumes-nil given, λ rest. refl)

more_pieces : (seen whole : List ℕ) (lines : List (List ℕ)) → has_line_feed whole ≡ false → ((rest : List ℕ) → pieces_of (seen ++ rest) ≡ lines ++ pieces_of rest)
    → (rest : List ℕ) → pieces_of ((seen ++ (whole ++ 10 ∷ [])) ++ rest) ≡ (lines ++ whole ∷ []) ++ pieces_of rest
more_pieces seen whole lines plain ends rest =
    ap pieces_of (append_assoc seen (whole ++ 10 ∷ []) rest ∙ ap (λ l. seen ++ l) (append_assoc whole (10 ∷ []) rest))
    ∙ ends (whole ++ 10 ∷ rest) ∙ ap (λ l. lines ++ l) (cut whole rest plain) ∙ sym (append_assoc lines (whole ∷ []) (pieces_of rest))

-- behind the end there is no line
none_behind : (here rest line : List ℕ) → TookLine 1048577 (Some here) (Some rest) line → here ≡ [] → ⊥
none_behind here rest line took none =
    elim took.gone [
      | inl gone ↦ omega (arith, ap length none, ap length gone, length-append (took.whole ++ 10 ∷ []) rest, length-append took.whole (10 ∷ []))
      | inr last ↦ omega (arith, ap length none, ap length last.1, length-append took.whole rest, last.0)
    ]

-- one line more was taken
pub ended_more : (given now left : Option (List ℕ)) (lines : List (List ℕ)) (line : List ℕ) → AreEnded given now lines → (took : TookLine 1048577 now left line)
    → AreRead given (lines ++ took.whole ∷ []) left → AreEnded given left (lines ++ took.whole ∷ [])
ended_more None now left lines line ended took read =
    elim ended [
      | inl so_far ↦ inl (so_far.0 ++ (took.whole ++ 10 ∷ []), tt, more_pieces so_far.0 took.whole lines took.plain so_far.2)
      | inr all ↦ absurd all
    ]
ended_more (Some text) None left lines line ended took read = elim ended [ inl so_far ↦ absurd so_far.1 | inr all ↦ absurd all ]
ended_more (Some text) (Some here) None lines line ended took read = elim took.gone [ inl gone ↦ absurd gone | inr last ↦ absurd last.1 ]
ended_more (Some text) (Some here) (Some rest) lines line ended took read =
    elim ended [
      | inl so_far ↦ elim took.gone [
        | inl gone ↦ inl (
          so_far.0 ++ (took.whole ++ 10 ∷ []),
          Consumes-trans (Some text) (Some here) (Some rest) so_far.0 (took.whole ++ 10 ∷ []) so_far.1 gone,
          more_pieces so_far.0 took.whole lines took.plain so_far.2,
        )
        | inr last ↦ inr (last.2, all_read (Some text) (Some rest) (lines ++ took.whole ∷ []) read last.2)
      ]
      | inr all ↦ absurd (none_behind here rest line took all.0)
    ]

-- ---- the lines that were whole in what was taken

without_end : (lines : List (List ℕ)) (end : List ℕ) → without_last (lines ++ end ∷ []) ≡ lines
unfolding without_last
without_end [] end = refl
without_end (line ∷ []) end = refl
without_end (line ∷ next ∷ lines) end = ap (λ l. line ∷ l) (without_end (next ∷ lines) end)

whole_with : (seen part : List ℕ) (lines : List (List ℕ)) → has_line_feed part ≡ false → ((rest : List ℕ) → pieces_of (seen ++ rest) ≡ lines ++ pieces_of rest)
    → lines ≡ whole_lines (seen ++ part)
whole_with seen part lines plain ends =
    sym (ap without_last (ends part ∙ ap (λ l. lines ++ l) (uncut part plain)) ∙ without_end lines part)

waiting_left : (left : Option (List ℕ)) (waiting : List ℕ) → Consumes (prepend_known waiting left) left waiting
waiting_left None waiting = tt
waiting_left (Some rest) waiting = refl

empty_of : (a : List ℕ) → length a ≡ 0 → a ≡ []
empty_of [] none = refl
empty_of (b ∷ bs) none = absurd (omega (arith, none))

nothing_more : (text waiting rest : List ℕ) → waiting ≡ [] → rest ≡ [] → text ≡ (text ++ waiting) ++ rest
nothing_more text waiting rest none end = rw (none, end) (sym (append-nil (text ++ []) ∙ append-nil text))

all_behind : (given now left : Option (List ℕ)) (waiting : List ℕ) (lines : List (List ℕ)) (line : List ℕ) → AreAll given now lines
    → TookPart 1048577 now (prepend_known waiting left) line → AreWhole given left lines waiting
all_behind None now left waiting lines line all took = absurd all
all_behind (Some text) None left waiting lines line all took = absurd all
all_behind (Some text) (Some here) None waiting lines line all took = absurd took.gone
all_behind (Some text) (Some here) (Some rest) waiting lines line all took =
    let size : length here ≡ length took.part + (length waiting + length rest) =
    ap length took.gone ∙ length-append took.part (waiting ++ rest) ∙ ap (λ n. length took.part + n) (length-append waiting rest) in
    let none : waiting ≡ [] = empty_of waiting (omega (arith, size, ap length all.0)) in
    let end : rest ≡ [] = empty_of rest (omega (arith, size, ap length all.0)) in
    record { seen = text; taken = nothing_more text waiting rest none end; are = inr (end, all.1) }

-- where no further line was whole
pub whole_after : (given now left : Option (List ℕ)) (waiting : List ℕ) (lines : List (List ℕ)) (line : List ℕ) → AreEnded given now lines
    → TookPart 1048577 now (prepend_known waiting left) line → AreWhole given left lines waiting
whole_after given now left waiting lines line ended took =
    elim ended [
      | inl so_far ↦ record {
        seen = so_far.0 ++ took.part;
        taken = Consumes-trans given (prepend_known waiting left) left (so_far.0 ++ took.part) waiting
            (Consumes-trans given now (prepend_known waiting left) so_far.0 took.part so_far.1 took.gone) (waiting_left left waiting);
        are = inl (whole_with so_far.0 took.part lines took.plain so_far.2);
      }
      | inr all ↦ all_behind given now left waiting lines line all took
    ]

no_line_behind : (given now later : Option (List ℕ)) (lines : List (List ℕ)) (line : List ℕ) → AreAll given now lines → TookLine 1048577 now later line → ⊥
no_line_behind None now later lines line all took = all
no_line_behind (Some text) None later lines line all took = all
no_line_behind (Some text) (Some here) None lines line all took = elim took.gone [ inl gone ↦ gone | inr last ↦ last.1 ]
no_line_behind (Some text) (Some here) (Some rest) lines line all took = none_behind here rest line took all.0

-- where one line more was, which is not among them
pub whole_before : (given now left : Option (List ℕ)) (waiting : List ℕ) (lines : List (List ℕ)) (line : List ℕ) → AreEnded given now lines
    → TookLine 1048577 now (prepend_known waiting left) line → length waiting < 65536
    → (late : List ℕ) × (length late ≤ 65536) × AreWhole given left lines late
whole_before given now left waiting lines line ended took few =
    let later = prepend_known waiting left in
    let whole = took.whole in
    elim ended [
      | inl so_far ↦ elim took.gone [
        | inl gone ↦ (
          10 ∷ waiting,
          omega (arith, few),
          record {
            seen = so_far.0 ++ whole;
            taken = subst (Consumes given left)
                (ap (λ l. l ++ waiting) (sym (append_assoc so_far.0 whole (10 ∷ []))) ∙ append_assoc (so_far.0 ++ whole) (10 ∷ []) waiting)
                (Consumes-trans given later left (so_far.0 ++ (whole ++ 10 ∷ [])) waiting
                (Consumes-trans given now later so_far.0 (whole ++ 10 ∷ []) so_far.1 gone) (waiting_left left waiting));
            are = inl (whole_with so_far.0 whole lines took.plain so_far.2);
          },
        )
        | inr last ↦ (
          waiting,
          omega (arith, few),
          record {
            seen = so_far.0 ++ whole;
            taken = Consumes-trans given later left (so_far.0 ++ whole) waiting (Consumes-trans given now later so_far.0 whole so_far.1 last.1) (waiting_left left waiting);
            are = inl (whole_with so_far.0 whole lines took.plain so_far.2);
          },
        )
      ]
      | inr all ↦ absurd (no_line_behind given now later lines line all took)
    ]

pub took_nothing : (now later : Option (List ℕ)) → Keeps now later → TookPart 1048577 now later []
took_nothing now later same = took_kept 1048577 now now later [] (nothing_yet 1048577 now).took same

pub none_whole : (given : Option (List ℕ)) → AreWhole given given [] []
unfolding pieces_of without_last
none_whole given = record { seen = []; taken = Consumes-nil given; are = inl refl }

-- ---- the header

-- what was read of the header, where there was a line and where there was none
pub opened_by : (some : Bool) (given left : Option (List ℕ)) (line : List ℕ) (version : ℕ) → (some ≡ true → TookLine 1048577 given left line)
    → (some ≡ false → line ≡ []) → version_on line ≡ Ok version → IsOpened given left version
opened_by true given left line version next none is =
    let took = next refl in
    let read = header_read given left line took in
    record {
      header = took.whole;
      good = sym read.1 ∙ is;
      read = read.0;
      ended = ended_more given given left [] line (nothing_taken given) took read.0;
    }
opened_by false given left line version next none is = absurd (no_version version (ap version_on (sym (none refl)) ∙ is))

pub bad_by : (some : Bool) (given left : Option (List ℕ)) (line : List ℕ) (fault : LineFault) → (some ≡ true → TookLine 1048577 given left line)
    → (some ≡ false → line ≡ []) → (some ≡ false → IsLastLine given left) → version_on line ≡ Err fault → IsBadHeader given fault
bad_by true given left line fault next none last is =
    let took = next refl in
    let read = header_read given left line took in
    record { header = took.whole; begins = begins given left (took.whole ∷ []) read.0; bad = sym read.1 ∙ is }
bad_by false given left line fault next none last is =
    record { header = []; begins = empty_header given left (last refl); bad = ap version_on (sym (none refl)) ∙ is }

-- no line was read
pub header_stopped : (given left : Option (List ℕ)) (waiting line : List ℕ) (e : LinesError) → TookPart 1048577 given (prepend_known waiting left) line
    → (e ≡ error.Read → waiting ≡ []) → length waiting ≤ 65536 → IsHeaderFault given left (fault_of e)
header_stopped given left waiting line error.Read took none few =
    subst (AreWhole given left []) (none refl) (whole_after given given left waiting [] line (nothing_taken given) took)
header_stopped given left waiting line error.Memory took none few =
    (waiting, few, whole_after given given left waiting [] line (nothing_taken given) took)

-- memory was refused for what the first line is
pub header_refused : (some : Bool) (given left : Option (List ℕ)) (waiting line : List ℕ) → (some ≡ true → TookLine 1048577 given (prepend_known waiting left) line)
    → (some ≡ false → Keeps given (prepend_known waiting left)) → length waiting < 65536 → IsHeaderFault given left fault_kind.Memory
header_refused true given left waiting line taken kept few = whole_before given given left waiting [] line (nothing_taken given) (taken refl) few
header_refused false given left waiting line taken kept few = (
  waiting,
  omega (arith, few),
  whole_after given given left waiting [] [] (nothing_taken given) (took_nothing given (prepend_known waiting left) (kept refl)),
)

-- ---- one line more was read

pub line_read : (given now left : Option (List ℕ)) (lines : List (List ℕ)) (line : List ℕ) → AreRead given lines now → (took : TookLine 1048577 now left line)
    → AreRead given (lines ++ took.whole ∷ []) left × ((number : ℕ) → record_on number line ≡ record_on number took.whole)
line_read None now left lines line read took = (tt, λ number. ap (record_on number) took.kept ∙ record_kept number took.whole)
line_read (Some text) None left lines line read took = absurd read
line_read (Some text) (Some here) None lines line read took = elim took.gone [ inl gone ↦ absurd gone | inr last ↦ absurd last.1 ]
line_read (Some text) (Some here) (Some rest) lines line read took = (
  read ∙ ap (λ l. lines ++ l) (line_taken 1048577 here rest line took) ∙ sym (append_assoc lines (took.whole ∷ []) (lines_left rest)),
  λ number. ap (record_on number) took.kept ∙ record_kept number took.whole,
)

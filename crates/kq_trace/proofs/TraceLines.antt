-- A trace, a line at a time.
use Rattle.std.proofs.Common.{◌≡◌, ℕ, ◌+◌, ◌<◌, ◌≤◌, ◌^◌, List, [], ◌∷◌, ◌++◌, length, None, Result, Ok, Err, refl, sym, ap, ◌∙◌, append_assoc, append-nil, arith}
use Rattle.std.proofs.lemmas.Bool.{lt-ltb, le-ltb}
use Rattle.kq_model.specs.declared.event.Event.{Event}
use Rattle.kq_model.specs.declared.line_fault.LineFault.{LineFault}
use Rattle.kq_model.specs.declared.line_fault.LineFault.TheVariants.{TooLong, Header, TooManyRecords}
use Rattle.kq_model.specs.Lines.{lines_of, pieces_of, without_empty_end}
use Rattle.kq_model.specs.Reading.{Outcome, Good, Bad, behind_header, event_of, header_of, header_version, joined, json_of, read_lines, read_records, reading, record_on, version_on, with_event}
use Rattle.kq_trace.specs.declared.fault.TraceError.{TraceError}
use Rattle.kq_trace.specs.declared.fault.TraceError.TheVariants.{Memory as NoMemory, Bad as BadTrace}
use Rattle.kq_trace.specs.Faults.{IsFault}
use Rattle.kq_trace.specs.Rest.{lines_behind}
use Rattle.kq_trace.specs.Unread.{behind_events, IsFaultAhead}

-- ---- one line

pub long_line : (number : ℕ) (line : List ℕ) → 2 ^ 20 < length line → record_on number line ≡ Err TooLong
unfolding record_on
long_line number line h = rw (lt-ltb (2 ^ 20) (length line) h) refl

pub late_line : (number : ℕ) (line : List ℕ) → length line ≤ 2 ^ 20 → 1000001 < number → record_on number line ≡ Err TooManyRecords
unfolding record_on
late_line number line short late = rw (le-ltb (2 ^ 20) (length line) short, lt-ltb 1000001 number late) refl

pub plain_line : (number : ℕ) (line : List ℕ) (r : Result Event LineFault) → length line ≤ 2 ^ 20 → number ≤ 1000001
    → event_of (json_of line) ≡ r → record_on number line ≡ r
unfolding record_on
plain_line number line r short early is = rw (le-ltb (2 ^ 20) (length line) short, le-ltb 1000001 number early) is

pub long_header : (line : List ℕ) → 2 ^ 20 < length line → version_on line ≡ Err TooLong
unfolding version_on
long_header line h = rw (lt-ltb (2 ^ 20) (length line) h) refl

pub wrong_header : (line : List ℕ) → length line ≤ 2 ^ 20 → None ≡ header_version (json_of line) → version_on line ≡ Err Header
unfolding version_on header_of
wrong_header line short wrong = rw (le-ltb (2 ^ 20) (length line) short, sym wrong) refl

-- ---- the first line

pub first_bad : (bytes line : List ℕ) (more : List (List ℕ)) (fault : LineFault)
    → lines_of bytes ≡ line ∷ more → version_on line ≡ Err fault → reading bytes ≡ Bad 1 fault
unfolding reading read_lines behind_header
first_bad bytes line more fault cut is = rw (cut, is) refl

pub opened : (bytes line : List ℕ) (more : List (List ℕ)) (version : ℕ)
    → lines_of bytes ≡ line ∷ more → version_on line ≡ Ok version → reading bytes ≡ read_records version 2 more
unfolding reading read_lines behind_header
opened bytes line more version cut is = rw (cut, is) refl

-- the same with lines behind these

pub bad_then : (lines : List (List ℕ)) (line : List ℕ) (more later : List (List ℕ)) (fault : LineFault)
    → lines ≡ line ∷ more → version_on line ≡ Err fault → read_lines (lines ++ later) ≡ Bad 1 fault
unfolding read_lines behind_header
bad_then lines line more later fault cut is = rw (cut, is) refl

pub opened_then : (lines : List (List ℕ)) (line : List ℕ) (more later : List (List ℕ)) (version : ℕ)
    → lines ≡ line ∷ more → version_on line ≡ Ok version → read_lines (lines ++ later) ≡ read_records version 2 (more ++ later)
unfolding read_lines behind_header
opened_then lines line more later version cut is = rw (cut, is) refl

-- ---- a later line

pub later_bad : (rest line : List ℕ) (more : List (List ℕ)) (version number : ℕ) (fault : LineFault)
    → lines_behind rest ≡ line ∷ more → record_on number line ≡ Err fault
    → read_records version number (lines_behind rest) ≡ Bad number fault
unfolding read_records joined
later_bad rest line more version number fault cut is =
    ap (read_records version number) cut ∙ ap (λ m. joined number m (read_records version (number + 1) more)) is

pub later_good : (rest line : List ℕ) (more : List (List ℕ)) (version number : ℕ) (event : Event)
    → lines_behind rest ≡ line ∷ more → record_on number line ≡ Ok event
    → read_records version number (lines_behind rest) ≡ with_event event (read_records version (number + 1) more)
unfolding read_records joined
later_good rest line more version number event cut is =
    ap (read_records version number) cut ∙ ap (λ m. joined number m (read_records version (number + 1) more)) is

pub no_line : (rest : List ℕ) (version number : ℕ) → rest ≡ [] → read_records version number (lines_behind rest) ≡ Good version []
unfolding read_records lines_behind pieces_of without_empty_end
no_line rest version number none = ap (λ text. read_records version number (lines_behind text)) none

-- ---- one record after the other

pub behind_none : (rest : Outcome) → rest ≡ behind_events [] rest
behind_none (Good version events) = refl
behind_none (Bad line fault) = refl

pub none_yet : (all ahead : Outcome) (events : List Event) → all ≡ ahead → events ≡ [] → all ≡ behind_events events ahead
none_yet all ahead events is none = is ∙ behind_none ahead ∙ ap (λ es. behind_events es ahead) (sym none)

pub behind_more : (events : List Event) (event : Event) (rest : Outcome)
    → behind_events events (with_event event rest) ≡ behind_events (events ++ event ∷ []) rest
unfolding with_event
behind_more events event (Good version more) = ap (Good version) (sym (append_assoc events (event ∷ []) more))
behind_more events event (Bad line fault) = refl

pub one_further : (all ahead rest : Outcome) (events after : List Event) (event : Event)
    → all ≡ behind_events events ahead → ahead ≡ with_event event rest → after ≡ events ++ event ∷ [] → all ≡ behind_events after rest
one_further all ahead rest events after event so_far read added =
    so_far ∙ ap (behind_events events) read ∙ behind_more events event rest ∙ ap (λ es. behind_events es rest) (sym added)

pub all_read : (all ahead : Outcome) (events : List Event) (version : ℕ)
    → all ≡ behind_events events ahead → ahead ≡ Good version [] → all ≡ Good version events
all_read all ahead events version so_far none = so_far ∙ ap (behind_events events) none ∙ ap (Good version) (append-nil events)

pub faulty : (bytes : List ℕ) (ahead : Outcome) (events : List Event) (error : TraceError)
    → reading bytes ≡ behind_events events ahead → IsFaultAhead ahead error → IsFault bytes error
faulty bytes ahead events NoMemory so_far is = tt
faulty bytes ahead events (BadTrace line fault) so_far is = so_far ∙ ap (behind_events events) is

pub empty_list : (text : List ℕ) → length text ≡ 0 → text ≡ []
empty_list [] none = refl
empty_list (b ∷ bs) none = absurd (omega (arith, none))

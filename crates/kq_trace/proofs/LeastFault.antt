-- A bad reading is that of the first bad line, and a good one that of each line.
use Rattle.std.proofs.Common.{◌≡◌, ℕ, zero, suc, ◌+◌, ◌<◌, ◌==◌, false, List, [], ◌∷◌, Some, None, Result, Ok, Err, refl, sym, ap, ◌∙◌, subst, arith}
use Rattle.std.proofs.lemmas.Bool.Decides.{nat_tests}
use Rattle.std.specs.Prelude.{slice_get}
use Rattle.kq_model.specs.declared.event.Event.{Event}
use Rattle.kq_model.specs.declared.line_fault.LineFault.{LineFault}
use Rattle.kq_model.specs.Lines.{lines_among, lines_of}
use Rattle.kq_model.specs.Reading.{Outcome, Good, Bad, behind_header, fault_of, fault_on, joined, read_lines, read_records, reading, record_on, version_on, with_event}
use Rattle.kq_spell.proofs.Lines.{some_piece}
use Rattle.kq_trace.specs.declared.fault.TraceError.{TraceError}
use Rattle.kq_trace.specs.declared.fault.TraceError.TheVariants.{Memory as NoMemory, Bad as BadTrace}
use Rattle.kq_trace.specs.Faults.{IsFault, IsFirstBad, IsLeastFault}

-- ---- one line

not_first : (line : ℕ) → 1 < line → (line == 1) ≡ false
not_first line later = grind (arith, nat_tests)

fault_later : (line : ℕ) (text : List ℕ) → 1 < line → fault_on line text ≡ fault_of (record_on line text)
unfolding fault_on
fault_later line text later = rw (not_first line later) refl

fault_first : (text : List ℕ) → fault_on 1 text ≡ fault_of (version_on text)
unfolding fault_on
fault_first text = refl

-- ---- a line before, or here

still_bad : (event : Event) (rest : Outcome) (line : ℕ) (fault : LineFault) → with_event event rest ≡ Bad line fault → rest ≡ Bad line fault
unfolding with_event
still_bad e (Good version events) line fault is = cc
still_bad e (Bad l f) line fault is = is

before_all : (first : ℕ) (line_text : List ℕ) (rest : List (List ℕ)) (place : ℕ) → fault_on first line_text ≡ None
    → ((k : ℕ) (before : List ℕ) → k < place → slice_get rest k ≡ Some before → fault_on (first + 1 + k) before ≡ None)
    → (k : ℕ) (before : List ℕ) → k < suc place → slice_get (line_text ∷ rest) k ≡ Some before → fault_on (first + k) before ≡ None
before_all first line_text rest place good later zero before lt at =
    let same : line_text ≡ before = cc in
    let number : first ≡ first + 0 = omega arith in
    ap (λ n. fault_on n before) (sym number) ∙ ap (fault_on first) (sym same) ∙ good
before_all first line_text rest place good later (suc k) before lt at =
    let number : first + 1 + k ≡ first + suc k = omega arith in
    subst (λ n. fault_on n before ≡ None) number (later k before (omega (arith, lt)) at)

one_more : (first : ℕ) (line_text : List ℕ) (rest : List (List ℕ)) (line : ℕ) (fault : LineFault)
    → fault_on first line_text ≡ None → IsFirstBad (first + 1) rest line fault → IsFirstBad first (line_text ∷ rest) line fault
one_more first line_text rest line fault good later = record {
  place = suc later.place;
  counted = omega (arith, later.counted);
  text = later.text;
  there = later.there;
  faulty = later.faulty;
  earlier = before_all first line_text rest later.place good later.earlier;
}

here : (first : ℕ) (line_text : List ℕ) (rest : List (List ℕ)) (fault : LineFault) → fault_on first line_text ≡ Some fault
    → IsFirstBad first (line_text ∷ rest) first fault
here first line_text rest fault is = record {
  place = 0;
  counted = omega arith;
  text = line_text;
  there = refl;
  faulty = is;
  earlier = λ k before lt at. absurd (omega (arith, lt));
}

at_line : (first line : ℕ) (f fault : LineFault) (lines : List (List ℕ)) → first ≡ line → f ≡ fault → IsFirstBad first lines first f → IsFirstBad first lines line fault
at_line first line f fault lines same_line same_fault bad =
    subst (λ n. IsFirstBad first lines n fault) same_line (subst (IsFirstBad first lines first) same_fault bad)

-- ---- the lines of records

bad_of : (r : Result Event LineFault) (first : ℕ) (line_text : List ℕ) (rest : List (List ℕ)) (version line : ℕ) (fault : LineFault)
    → 1 < first → record_on first line_text ≡ r → joined first r (read_records version (first + 1) rest) ≡ Bad line fault
    → (read_records version (first + 1) rest ≡ Bad line fault → IsFirstBad (first + 1) rest line fault)
    → IsFirstBad first (line_text ∷ rest) line fault
unfolding joined fault_of
bad_of (Err f) first line_text rest version line fault behind means is later =
    let same_line : first ≡ line = cc in
    let same_fault : f ≡ fault = cc in
    at_line first line f fault (line_text ∷ rest) same_line same_fault
    (here first line_text rest f (fault_later first line_text behind ∙ ap fault_of means))
bad_of (Ok event) first line_text rest version line fault behind means is later =
    one_more first line_text rest line fault (fault_later first line_text behind ∙ ap fault_of means)
    (later (still_bad event (read_records version (first + 1) rest) line fault is))

first_bad_record : (version first : ℕ) (lines : List (List ℕ)) (line : ℕ) (fault : LineFault) → 1 < first
    → read_records version first lines ≡ Bad line fault → IsFirstBad first lines line fault
unfolding read_records
first_bad_record version first [] line fault behind is = cc
first_bad_record version first (line_text ∷ rest) line fault behind is =
    bad_of (record_on first line_text) first line_text rest version line fault behind refl is
    (first_bad_record version (first + 1) rest line fault (omega arith))

-- ---- the whole

first_bad_of : (r : Result ℕ LineFault) (line_text : List ℕ) (rest : List (List ℕ)) (line : ℕ) (fault : LineFault)
    → version_on line_text ≡ r → behind_header r rest ≡ Bad line fault → IsFirstBad 1 (line_text ∷ rest) line fault
unfolding behind_header fault_of
first_bad_of (Err f) line_text rest line fault means is =
    let same_line : 1 ≡ line = cc in
    let same_fault : f ≡ fault = cc in
    at_line 1 line f fault (line_text ∷ rest) same_line same_fault
    (here 1 line_text rest f (fault_first line_text ∙ ap fault_of means))
first_bad_of (Ok version) line_text rest line fault means is =
    one_more 1 line_text rest line fault (fault_first line_text ∙ ap fault_of means)
    (first_bad_record version 2 rest line fault (omega arith) is)

some_line : (bytes : List ℕ) → (first : List ℕ) × (rest : List (List ℕ)) × (lines_of bytes ≡ first ∷ rest)
unfolding lines_of lines_among
some_line bytes = let some = some_piece bytes in rw some.2 (some.0, _, refl)

pub least_fault : (bytes : List ℕ) (error : TraceError) → IsFault bytes error → IsLeastFault bytes error
unfolding reading read_lines
least_fault bytes NoMemory is = tt
least_fault bytes (BadTrace line fault) is =
    let some = some_line bytes in
    rw some.2 (first_bad_of (version_on some.0) some.0 some.1 line fault refl (ap read_lines (sym some.2) ∙ is))

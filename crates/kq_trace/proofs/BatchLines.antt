-- The lines of a batch one by one.
use Rattle.std.proofs.Common.{Bor, Vec, Global, ◌≡◌, ℕ, suc, ◌+◌, ◌<◌, ◌≤◌, List, [], ◌∷◌, ◌++◌, length, drop, get_or, Ok, Err, sym, ap, ◌∙◌, append_assoc, add-one, arith}
use Rattle.std.proofs.Math.Seq.{drop-cons}
use Rattle.std.proofs.lemmas.List.{drop_all, length-map, map-append}
use Rattle.kq_model.specs.declared.event.Event.{Event}
use Rattle.kq_model.specs.declared.line_fault.LineFault.{LineFault}
use Rattle.kq_model.specs.Limits.{most_records}
use Rattle.kq_model.specs.Reading.{Bad, joined, read_records, record_on}
use Rattle.kq_trace.specs.declared.batches.Batch.TheVariants as batch
use Rattle.kq_trace.specs.Batches.{IsReadAs}
use Rattle.kq_trace.specs.Rest.{texts}
use Rattle.kq_trace.specs.Unread.{behind_events}
use Rattle.kq_trace.proofs.TraceLines.{all_read, behind_more, none_yet}

-- ---- lines that are cut off

pub line_cut : (all ahead later : List (List ℕ)) (lines after : List (Bor (List ℕ))) (line : Bor (List ℕ))
    → all ≡ texts lines ++ ahead → ahead ≡ line.now ∷ later → after ≡ lines ++ line ∷ [] → all ≡ texts after ++ later
line_cut all ahead later lines after line so_far cut added =
    let now = λ (l : Bor (List ℕ)). l.now in
    so_far ∙ ap (λ ls. texts lines ++ ls) cut ∙ sym (append_assoc (texts lines) (line.now ∷ []) later)
    ∙ ap (λ ls. ls ++ later) (sym (map-append now lines (line ∷ []))) ∙ ap (λ ls. texts ls ++ later) (sym added)

-- ---- a line at a time

-- the events so far stand before what the lines from this place on mean
abbrev pub AreReadTo : List (Bor (List ℕ)) → ℕ → List Event → Type 0
AreReadTo lines place events =
    (version first : ℕ) → first + length (texts lines) ≤ 2 + most_records
    → read_records version first (texts lines) ≡ behind_events events (read_records version (first + place) (texts (drop place lines)))

pub none_read : (lines : List (Bor (List ℕ))) (events : List Event) → events ≡ [] → AreReadTo lines 0 events
none_read lines events none version first fits =
    let same : first ≡ first + 0 = omega arith in
    none_yet _ _ events (ap (λ n. read_records version n (texts lines)) same) none

next_line : (lines : List (Bor (List ℕ))) (place : ℕ) (other : Bor (List ℕ)) (version first : ℕ) → place < length lines
    → read_records version (first + place) (texts (drop place lines))
    ≡ joined (first + place) (record_on (first + place) (get_or lines place other).now) (read_records version (first + (place + 1)) (texts (drop (place + 1) lines)))
unfolding read_records
next_line lines place other version first lt =
    let line = get_or lines place other in
    let number : first + place + 1 ≡ first + (place + 1) = omega arith in
    ap (λ ls. read_records version (first + place) (texts ls)) (drop-cons lines place other lt)
    ∙ ap (λ n. joined (first + place) (record_on (first + place) line.now) (read_records version n (texts (drop (suc place) lines)))) number
    ∙ ap (λ n. joined (first + place) (record_on (first + place) line.now) (read_records version (first + (place + 1)) (texts (drop n lines)))) (sym (add-one place))

-- the number of a line is that of one that may be a record
early : (lines : List (Bor (List ℕ))) (place first : ℕ) → place < length lines → first + length (texts lines) ≤ 2 + most_records
    → first + place ≤ 1 + most_records
early lines place first lt fits = omega (arith, lt, fits, length-map lines (λ (line : Bor (List ℕ)). line.now))

pub line_read : (lines : List (Bor (List ℕ))) (place : ℕ) (other : Bor (List ℕ)) (event : Event) (events after : List Event)
    → place < length lines
    → ((number : ℕ) → number ≤ 1 + most_records → record_on number (get_or lines place other).now ≡ Ok event) → after ≡ events ++ event ∷ []
    → AreReadTo lines place events → AreReadTo lines (place + 1) after
unfolding joined
line_read lines place other event events after lt means added so_far version first fits =
    let later = read_records version (first + (place + 1)) (texts (drop (place + 1) lines)) in
    so_far version first fits
    ∙ ap (behind_events events)
    (next_line lines place other version first lt ∙ ap (λ r. joined (first + place) r later) (means (first + place) (early lines place first lt fits)))
    ∙ behind_more events event later ∙ ap (λ es. behind_events es later) (sym added)

pub line_bad : (lines : List (Bor (List ℕ))) (place : ℕ) (other : Bor (List ℕ)) (fault : LineFault) (events : List Event)
    → place < length lines
    → ((number : ℕ) → number ≤ 1 + most_records → record_on number (get_or lines place other).now ≡ Err fault) → length events ≡ place
    → AreReadTo lines place events → IsReadAs (texts lines) (batch.Bad (length events) fault)
unfolding joined
line_bad lines place other fault events lt means count so_far = (
  omega (arith, lt, count, length-map lines (λ (line : Bor (List ℕ)). line.now)),
  λ version first fits.
      let later = read_records version (first + (place + 1)) (texts (drop (place + 1) lines)) in
      so_far version first fits
      ∙ ap (behind_events events)
      (next_line lines place other version first lt ∙ ap (λ r. joined (first + place) r later) (means (first + place) (early lines place first lt fits)))
      ∙ ap (λ n. Bad (first + n) fault) (sym count),
)

pub lines_read : (lines : List (Bor (List ℕ))) (place : ℕ) (events : Vec Event Global) → length lines ≤ place → place ≤ length lines
    → length events.items ≡ place → AreReadTo lines place events.items → IsReadAs (texts lines) (batch.Records events)
unfolding read_records
lines_read lines place events end within count so_far = (
  omega (arith, end, within, count, length-map lines (λ (line : Bor (List ℕ)). line.now)),
  λ version first fits.
      all_read _ _ events.items version (so_far version first fits)
      (ap (λ ls. read_records version (first + place) (texts ls)) (drop_all place lines end)),
)

-- Lines that are read in parts are read as one list.
use Rattle.std.proofs.Common.{◌≡◌, ℕ, suc, ◌+◌, List, [], ◌∷◌, ◌++◌, length, Result, Ok, Err, refl, sym, ap, subst, ◌∙◌, arith}
use Rattle.std.specs.Prelude.{flat_map}
use Rattle.std.specs.List.{AllZip}
use Rattle.kq_model.specs.declared.event.Event.{Event}
use Rattle.kq_model.specs.declared.line_fault.LineFault.{LineFault}
use Rattle.kq_model.specs.Reading.{Outcome, Good, Bad, joined, read_records, record_on, with_event}
use Rattle.kq_trace.specs.declared.batches.Batch.{Batch}
use Rattle.kq_trace.specs.Batches.{AreReadAs, IsReadAs}
use Rattle.kq_trace.specs.Unread.{behind_events}
use Rattle.kq_trace.proofs.TraceLines.{behind_none}

-- ---- lines one behind the other

-- what lines mean that are followed by lines with this meaning
abbrev pub followed_by : Outcome → Outcome → Outcome
followed_by (Good version events) later = behind_events events later
followed_by (Bad line fault) later = Bad line fault

event_behind : (event : Event) (events : List Event) (later : Outcome)
    → with_event event (behind_events events later) ≡ behind_events (event ∷ events) later
unfolding with_event
event_behind event events (Good version more) = refl
event_behind event events (Bad line fault) = refl

line_followed : (line : ℕ) (r : Result Event LineFault) (here later : Outcome)
    → joined line r (followed_by here later) ≡ followed_by (joined line r here) later
unfolding joined with_event
line_followed line (Err fault) here later = refl
line_followed line (Ok event) (Bad l f) later = refl
line_followed line (Ok event) (Good version events) later = event_behind event events later

-- what lines mean is what the first of them mean, followed by what the others do
pub lines_followed : (version first : ℕ) (lines more : List (List ℕ))
    → read_records version first (lines ++ more) ≡ followed_by (read_records version first lines) (read_records version (first + length lines) more)
unfolding read_records
lines_followed version first [] more =
    let same : first ≡ first + 0 = omega arith in
    ap (λ n. read_records version n more) same ∙ behind_none (read_records version (first + 0) more)
lines_followed version first (line ∷ lines) more =
    let same : first + 1 + length lines ≡ first + suc (length lines) = omega arith in
    ap (joined first (record_on first line)) (lines_followed version (first + 1) lines more)
    ∙ line_followed first (record_on first line) (read_records version (first + 1) lines) (read_records version (first + 1 + length lines) more)
    ∙ ap (λ n. followed_by (joined first (record_on first line) (read_records version (first + 1) lines)) (read_records version n more)) same

-- good lines have as many events as there are lines
abbrev HasEvents : Outcome → ℕ → Type 0
HasEvents (Good version events) count = length events ≡ count
HasEvents (Bad line fault) count = Unit {0}

one_event_more : (line : ℕ) (r : Result Event LineFault) (later : Outcome) (count : ℕ) → HasEvents later count → HasEvents (joined line r later) (suc count)
unfolding joined with_event
one_event_more line (Err fault) later count has = tt
one_event_more line (Ok event) (Bad l f) count has = tt
one_event_more line (Ok event) (Good version events) count has = ap suc has

has_events : (version first : ℕ) (lines : List (List ℕ)) → HasEvents (read_records version first lines) (length lines)
unfolding read_records
has_events version first [] = refl
has_events version first (line ∷ lines) =
    one_event_more first (record_on first line) (read_records version (first + 1) lines) (length lines) (has_events version (first + 1) lines)

pub counted : (version first : ℕ) (lines : List (List ℕ)) (v : ℕ) (events : List Event)
    → read_records version first lines ≡ Good v events → length events ≡ length lines
counted version first lines v events is = subst (λ o. HasEvents o (length lines)) is (has_events version first lines)

-- ---- the batches ahead

-- the next batch is that of the next lines
pub record IsNextBatch (behind : List (List ℕ)) (b : Batch) (ahead : List Batch) : Type 0 where
  pub part : List (List ℕ)
  pub later : List (List ℕ)
  pub cut : behind ≡ part ++ later
  pub here : IsReadAs part b
  pub read : AreReadAs later ahead

pub next_of : (behind : List (List ℕ)) (parts : List (List (List ℕ))) (b : Batch) (ahead : List Batch)
    → flat_map (λ part. part) parts ≡ behind → AllZip IsReadAs parts (b ∷ ahead) → IsNextBatch behind b ahead
next_of behind [] b ahead cut each = absurd each
next_of behind (part ∷ parts) b ahead cut each = record {
  part = part;
  later = flat_map (λ part. part) parts;
  cut = sym cut;
  here = each.0;
  read = (parts, refl, each.1);
}

-- with no batch ahead, no line is left
pub no_part : (parts : List (List (List ℕ))) → AllZip IsReadAs parts [] → flat_map (λ part. part) parts ≡ []
no_part [] each = refl
no_part (part ∷ parts) each = absurd each

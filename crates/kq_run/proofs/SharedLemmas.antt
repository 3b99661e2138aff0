-- What some records more make of a fold of shares, and its report at the end.
use Rattle.std.proofs.Common.{Global, Box, Vec, Some, ◌≡◌, ◌∙◌, ℕ, ◌+◌, ◌≤◌, List, [], ◌∷◌, ◌++◌, length, map, refl, sym, ap, subst, arith, append_assoc, append-nil, length-append, add-zero}
use Rattle.std.proofs.lemmas.List.{length-map}
use Rattle.std.proofs.lemmas.List.Sorted.{IsPermutation-refl}
use Rattle.kq_model.specs.declared.event.Event.{Event}
use Rattle.kq_model.specs.declared.row.Row.{Row}
use Rattle.kq_model.specs.declared.rows.Rows.{Rows}
use Rattle.kq_model.specs.Births.{Birth}
use Rattle.kq_model.specs.Objects.{counted}
use Rattle.kq_model.specs.Report.{last_line, report, report_of}
use Rattle.kq_model.specs.System as model
use Rattle.kq_model.specs.System.{row_of, rows_after, step, system_after}
use Rattle.kq_model.specs.Tallied.{System}
use Rattle.kq_model.specs.World.{empty_world}
use Rattle.kq_model.proofs.ListedTrace.{kqueues-listed}
use Rattle.kq_merge.specs.Written.{nothing_written, written, Written}
use Rattle.kq_merge.proofs.WrittenRows.{nothing_is, report-is}
use Rattle.kq_system.specs.declared.sharing.Share.{Share}
use Rattle.kq_system.specs.Sharing.{ShareState}
use Rattle.kq_system.proofs.RowLemmas.{rows-begin}
use Rattle.kq_projection.specs.Traced.{births_of}
use Rattle.std.specs.Prelude.{slice_get}
use Rattle.kq_shares.specs.Going.{events_in}
use Rattle.kq_shares.specs.Births.{births_after}
use Rattle.kq_shares.specs.Whole.{AreRowsOf, AreSharesOf}
use Rattle.kq_shares.proofs.BirthLemmas.{births-more}
use Rattle.kq_run.specs.declared.shared_fold.SharedFold.{SharedFold}
use Rattle.kq_run.specs.Replay.{HasKqueues}
use Rattle.kq_run.specs.Sharing.{begin, IsShared}

-- ---- records more

later : (place : ℕ) (es : List Event) (e : Event) → (place + 1) + length es ≡ place + length (e ∷ es)
later place es e = omega arith

system-more : (place : ℕ) (s : System) (es fs : List Event)
    → system_after place s (es ++ fs) ≡ system_after (place + length es) (system_after place s es) fs
unfolding system_after
system-more place s [] fs = ap (λ n. system_after n s fs) (sym (add-zero place))
system-more place s (e ∷ es) fs =
    let next = (step place e s).system in
    system-more (place + 1) next es fs
    ∙ ap (λ n. system_after n (system_after (place + 1) next es) fs) (later place es e)

rows-more : (place : ℕ) (s : System) (es fs : List Event)
    → rows_after place s (es ++ fs) ≡ rows_after place s es ++ rows_after (place + length es) (system_after place s es) fs
unfolding rows_after system_after
rows-more place s [] fs = ap (λ n. rows_after n s fs) (sym (add-zero place))
rows-more place s (e ∷ es) fs =
    let next = (step place e s).system in
    let here = row_of place (step place e s).reply in
    ap (λ rs. here ++ rs) (rows-more (place + 1) next es fs
    ∙ ap (λ n. rows_after (place + 1) next es ++ rows_after n (system_after (place + 1) next es) fs) (later place es e))
    ∙ sym (append_assoc here (rows_after (place + 1) next es) (rows_after (place + length (e ∷ es)) (system_after (place + 1) next es) fs))

-- ---- a fold of shares

abbrev pub states_in : SharedFold → List ShareState
states_in f = map (λ (b : Box Share Global). b.value) f.shares.shares.items

pub shared-begun : (version : ℕ) (f : SharedFold) → AreSharesOf 0 (begin version) (states_in f) → f.records ≡ 0 → f.text ≡ nothing_written
    → f.waiting.items ≡ [] → IsShared version f []
unfolding system_after rows_after
shared-begun version f shares none text waits = record {
  records = none;
  shares = shares;
  rows = [];
  text = text ∙ nothing_is;
  others = [];
  waiting = subst (λ (lists : List Rows). AreRowsOf lists []) (sym waits) (IsPermutation-refl [], tt);
  all = refl;
}

pub shared-more : (version : ℕ) (old new : SharedFold) (before events : List Event) → IsShared version old before
    → new.records ≡ old.records + length events
    → ((written_now rows : List Row) → old.text ≡ written written_now → AreRowsOf old.waiting.items rows → new.text ≡ written (written_now ++ rows))
    → ((applied : ℕ) (s : System) → AreSharesOf applied s (states_in old)
    → AreSharesOf (applied + length events) (system_after (applied + 1) s events) (states_in new))
    → ((applied : ℕ) (s : System) → AreSharesOf applied s (states_in old) → AreRowsOf new.waiting.items (rows_after (applied + 1) s events))
    → IsShared version new (before ++ events)
shared-more version old new before events is counts lines goes gives =
    let n = length before in
    let s = system_after 1 (begin version) before in
    let places : n + 1 ≡ 1 + n = omega arith in
    let count : n + length events ≡ length (before ++ events) = sym (length-append before events) in
    let system : system_after (n + 1) s events ≡ system_after 1 (begin version) (before ++ events) =
    ap (λ p. system_after p s events) places ∙ sym (system-more 1 (begin version) before events) in
    record {
      records = counts ∙ ap (λ m. m + length events) is.records ∙ count;
      shares = subst (λ m. AreSharesOf m (system_after 1 (begin version) (before ++ events)) (states_in new)) count
          (subst (λ (t : System). AreSharesOf (n + length events) t (states_in new)) system (goes n s is.shares));
      rows = is.rows ++ is.others;
      text = lines is.rows is.others is.text is.waiting;
      others = rows_after (n + 1) s events;
      waiting = gives n s is.shares;
      all = ap (λ rs. rs ++ rows_after (n + 1) s events) is.all
          ∙ ap (λ p. rows_after 1 (begin version) before ++ rows_after p s events) places
          ∙ sym (rows-more 1 (begin version) before events);
    }

pub shared-report : (version : ℕ) (f : SharedFold) (events : List Event) (all : Written) (text : List ℕ) → IsShared version f events
    → ((written_now rows : List Row) → f.text ≡ written written_now → AreRowsOf f.waiting.items rows → all ≡ written (written_now ++ rows))
    → text ≡ all.lines ++ last_line all.calls all.events f.records → text ≡ report_of version events
unfolding report_of
shared-report version f events all text is lines end =
    let rows : List Row = is.rows ++ is.others in
    let whole : rows ≡ model.rows version events = is.all ∙ rows-begin version events (begin version) refl in
    report-is rows f.records all text (lines is.rows is.others is.text is.waiting) end
    ∙ ap (λ n. report rows n) is.records ∙ ap (λ rs. report rs (length events)) whole

-- ---- two kqueues

kqueue-count : (version : ℕ) (es : List Event)
    → length (births_of (record { version = version; events = es })) ≡ length (births_after 1 (empty_world counted) es)
kqueue-count version es =
    ap length (kqueues-listed version es) ∙ sym (length-map _ (λ (b : Birth). b.place))

pub two-made : (version : ℕ) (es fs : List Event) → 2 ≤ length (births_after 1 (empty_world counted) es) → HasKqueues version (es ++ fs)
two-made version es fs two =
    let more = births-more 1 (empty_world counted) es fs in
    let count = kqueue-count version (es ++ fs) in
    omega (arith, two, more, count)

pub still-two : (version : ℕ) (es fs : List Event) → HasKqueues version es → HasKqueues version (es ++ fs)
still-two version es fs two =
    let count = kqueue-count version es in
    two-made version es fs (omega (arith, two, count))

-- what the first piece makes
pub two-first : (version : ℕ) (ps : List (Vec Event Global)) (p : Vec Event Global) → slice_get ps 0 ≡ Some p
    → 2 ≤ length (births_after 1 (empty_world counted) p.items) → HasKqueues version (events_in ps)
two-first version [] p is two = cc
two-first version (q ∷ ps) p is two =
    let same : q ≡ p = cc in
    two-made version q.items (events_in ps) (subst (λ (v : Vec Event Global). 2 ≤ length (births_after 1 (empty_world counted) v.items)) (sym same) two)

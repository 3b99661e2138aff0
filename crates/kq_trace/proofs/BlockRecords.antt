-- The records on the lines of a block, whatever lines follow.
use Rattle.std.proofs.Common.{◌≡◌, ℕ, ◌+◌, ◌<◌, ◌≤◌, List, ◌∷◌, ◌++◌, length, Err, refl, sym, ap, ◌∙◌, append_assoc, arith}
use Rattle.kq_model.specs.declared.event.Event.{Event}
use Rattle.kq_model.specs.declared.line_fault.LineFault.{LineFault}
use Rattle.kq_model.specs.Limits.{most_records}
use Rattle.kq_model.specs.Reading.{Good, Bad, joined, read_records, record_on}
use Rattle.kq_trace.specs.declared.fault.TraceError.{TraceError}
use Rattle.kq_trace.specs.declared.fault.TraceError.TheVariants.{Memory as NoMemory, Bad as BadTrace}
use Rattle.kq_trace.specs.Batches.{AreRecordsAnywhere}
use Rattle.kq_trace.specs.Unread.{AreRecordsFrom, behind_events, IsFaultAhead, IsFaultFrom}
use Rattle.kq_trace.proofs.PutTogether.{counted, followed_by, lines_followed}

pub read_from : (number : ℕ) (all lines : List (List ℕ)) (events : List Event) → all ≡ lines
    → ((version : ℕ) → read_records version number lines ≡ Good version events) → number + length events ≤ 2 + most_records
    → AreRecordsFrom number all events
read_from number all lines events same good few =
    let count : length events ≡ length lines = omega (arith, counted 0 number lines 0 events (good 0)) in
    record {
      meaning = λ version later.
          ap (λ l. read_records version number (l ++ later)) same ∙ lines_followed version number lines later
          ∙ ap (λ o. followed_by o (read_records version (number + length lines) later)) (good version)
          ∙ ap (λ n. behind_events events (read_records version (number + n) later)) (sym count);
      count = count ∙ ap length (sym same);
      limit = few;
    }

pub whole_from : (number : ℕ) (lines : List (List ℕ)) (events : List Event) → AreRecordsAnywhere lines events
    → number + length events ≤ 2 + most_records → AreRecordsFrom number lines events
whole_from number lines events good few =
    let fits : number + length lines ≤ 2 + most_records = omega (arith, few, good.0) in
    read_from number lines lines events refl (λ version. good.1 version number fits) few

pub faulty_from : (number : ℕ) (all first rest : List (List ℕ)) (error : TraceError) → all ≡ first ++ rest
    → ((version : ℕ) → IsFaultAhead (read_records version number first) error) → IsFaultFrom number all error
faulty_from number all first rest NoMemory cut is = λ version later. tt
faulty_from number all first rest (BadTrace line fault) cut is = λ version later.
    ap (λ l. read_records version number (l ++ later)) cut ∙ ap (read_records version number) (append_assoc first rest later)
    ∙ lines_followed version number first (rest ++ later)
    ∙ ap (λ o. followed_by o (read_records version (number + length first) (rest ++ later))) (is version)

-- a line behind those that may be records
pub late_from : (number most : ℕ) (all first : List (List ℕ)) (line : List ℕ) (more : List (List ℕ)) (fault : LineFault) (events : List Event)
    → all ≡ first ++ line ∷ more → length first ≡ most → ((version : ℕ) → read_records version number first ≡ Good version events)
    → ((n : ℕ) → 1 + most_records < n → record_on n line ≡ Err fault) → 1 + most_records < number + most
    → (version : ℕ) (later : List (List ℕ)) → read_records version number (all ++ later) ≡ Bad (number + most) fault
unfolding read_records joined
late_from number most all first line more fault events cut full good late past = λ version later.
    ap (λ l. read_records version number (l ++ later)) cut ∙ ap (read_records version number) (append_assoc first (line ∷ more) later)
    ∙ lines_followed version number first (line ∷ (more ++ later))
    ∙ ap (λ o. followed_by o (read_records version (number + length first) (line ∷ (more ++ later)))) (good version)
    ∙ ap (λ n. behind_events events (read_records version (number + n) (line ∷ (more ++ later)))) full
    ∙ ap (λ r. behind_events events (joined (number + most) r (read_records version (number + most + 1) (more ++ later)))) (late (number + most) past)

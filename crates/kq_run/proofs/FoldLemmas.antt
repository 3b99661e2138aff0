-- What some records more make of a fold, and its report at the end.
use Rattle.std.proofs.Common.{Vec, Global, ◌≡◌, ◌∙◌, ℕ, ◌+◌, List, [], ◌∷◌, ◌++◌, length, refl, sym, ap, subst, arith, append-nil, append_assoc, length-append, add-zero}
use Rattle.kq_model.specs.declared.event.Event.{Event}
use Rattle.kq_model.specs.declared.reply.Reply.{Reply}
use Rattle.kq_model.specs.declared.reply.Reply.TheVariants.{Done, Events, Failed, Impossible}
use Rattle.kq_model.specs.declared.row.Row.{Row}
use Rattle.kq_model.specs.Report.{call_count, calls_in, event_count, events_in, last_line, reply_line, report, report_of, row_lines}
use Rattle.kq_model.specs.System as model
use Rattle.kq_model.specs.System.{empty_system, row_of, rows_after, step}
use Rattle.kq_model.specs.Tallied.{System}
use Rattle.kq_merge.specs.Written.{nothing_written, with_reply, written, Written}
use Rattle.kq_merge.proofs.WrittenRows.{nothing_is, report-is, row_more}
use Rattle.kq_system.specs.SystemState.{SystemState, system_of, IsStep}
use Rattle.kq_system.proofs.RowLemmas.{row_of-done, rows-begin}
use Rattle.kq_run.specs.declared.fold.Fold.{Fold}
use Rattle.kq_run.specs.Folding.{Answers, AreRowsOf, GoesOn, IsFolded}

-- ---- the report

done_written : (at : ℕ) (rows : List Row) → with_reply at Done (written rows) ≡ written rows
unfolding reply_line calls_in events_in
done_written at rows = rw (append-nil (row_lines rows), add-zero (call_count rows), add-zero (event_count rows)) refl

-- the reply to a record more
pub reply_written : (at : ℕ) (r : Reply) (rows : List Row) → with_reply at r (written rows) ≡ written (rows ++ row_of at r)
unfolding row_of
reply_written at Done rows = done_written at rows ∙ ap written (row_of-done at rows)
reply_written at (Events events) rows = row_more rows (record { at = at; reply = Events events }) (written rows) refl
reply_written at (Failed e) rows = row_more rows (record { at = at; reply = Failed e }) (written rows) refl
reply_written at (Impossible why) rows = row_more rows (record { at = at; reply = Impossible why }) (written rows) refl

-- ---- the rows of some records

rows_step : (place : ℕ) (e : Event) (s s' : System) (r : Reply) (later : List Event) → IsStep place e s s' r
    → rows_after place s (e ∷ later) ≡ row_of place r ++ rows_after (place + 1) s' later
unfolding rows_after
rows_step place e s s' r later is = rw (is.1, is.0) refl

none_left : (place : ℕ) (s : System) (rows : List Row) → rows ++ rows_after place s [] ≡ rows
unfolding rows_after
none_left place s rows = append-nil rows

rows_of_none : (s : SystemState) → AreRowsOf s s [] []
rows_of_none s = record { applied = sym (add-zero s.applied); ahead = λ later. refl }

rows_of_one : (old new : SystemState) (e : Event) (r : Reply) (at : ℕ) → IsStep (old.applied + 1) e (system_of old) (system_of new) r
    → new.applied ≡ old.applied + 1 → at ≡ new.applied → AreRowsOf old new (e ∷ []) (row_of at r)
rows_of_one old new e r at is next here = record {
  applied = next;
  ahead = λ later.
      ap (λ n. row_of n r ++ rows_after (new.applied + 1) (system_of new) later) (here ∙ next)
      ∙ ap (λ n. row_of (old.applied + 1) r ++ rows_after (n + 1) (system_of new) later) next
      ∙ sym (rows_step (old.applied + 1) e (system_of old) (system_of new) r later is);
}

rows_of_more : (old mid new : SystemState) (es more : List Event) (rows others : List Row) → AreRowsOf old mid es rows
    → AreRowsOf mid new more others → AreRowsOf old new (es ++ more) (rows ++ others)
rows_of_more old mid new es more rows others first then = record {
  applied = omega (arith, first.applied, then.applied, length-append es more);
  ahead = λ later.
      append_assoc rows others (rows_after (new.applied + 1) (system_of new) later)
      ∙ ap (λ rs. rows ++ rs) (then.ahead later)
      ∙ first.ahead (more ++ later)
      ∙ ap (λ all. rows_after (old.applied + 1) (system_of old) all) (sym (append_assoc es more later));
}

-- ---- the system, and what takes the rows

module _ {K : Type 0} (took : K → List Row → Type 0) where
  pub answers_none : (s : SystemState) (k : K) → Answers took s k s k []
  answers_none s k = ([], rows_of_none s, λ so_far has. subst (took k) (sym (append-nil so_far)) has)

  pub answers_one : (old new : SystemState) (k n : K) (e : Event) (r : Reply) (at : ℕ) → IsStep (old.applied + 1) e (system_of old) (system_of new) r
      → new.applied ≡ old.applied + 1 → at ≡ new.applied → ((rows : List Row) → took k rows → took n (rows ++ row_of at r))
      → Answers took old k new n (e ∷ [])
  answers_one old new k n e r at is next here takes = (row_of at r, rows_of_one old new e r at is next here, takes)

  pub answers_more : (old mid new : SystemState) (k m n : K) (es more : List Event) → Answers took old k mid m es → Answers took mid m new n more
      → Answers took old k new n (es ++ more)
  answers_more old mid new k m n es more (rows, are, takes) (others, then, takes_then) = (
    rows ++ others,
    rows_of_more old mid new es more rows others are then,
    λ so_far has. subst (took n) (append_assoc so_far rows others) (takes_then (so_far ++ rows) (takes so_far has)),
  )

-- ---- a fold

pub begun : (version : ℕ) (f : Fold) → system_of f.system.value ≡ empty_system version → f.system.value.applied ≡ 0 → f.text ≡ nothing_written
    → f.waiting.items ≡ [] → IsFolded version f []
begun version f empty none text waits = record {
  applied = none;
  rows = [];
  text = text ∙ nothing_is;
  ahead = λ later. ap (λ rs. rs ++ rows_after 1 (system_of f.system.value) later) waits ∙ rows-begin version later (system_of f.system.value) empty;
}

-- whatever was written of the rows, none is missing
goes_on : (old new : Fold) (events : List Event) (rows : List Row) → AreRowsOf old.system.value new.system.value events rows
    → ((before : List Row) → old.text ≡ written before
    → (all : List Row) × (new.text ≡ written all) × (all ++ new.waiting.items ≡ (before ++ old.waiting.items) ++ rows))
    → GoesOn old new events
goes_on old new events rows are lines = record {
  applied = are.applied;
  folded = λ version before is.
      let (all, text, same) = lines is.rows is.text in
      let so_far : List Row = is.rows ++ old.waiting.items in
      let counts : new.system.value.applied ≡ length (before ++ events) =
      are.applied ∙ ap (λ n. n + length events) is.applied ∙ sym (length-append before events) in
      record {
        applied = counts;
        rows = all;
        text = text;
        ahead = λ later.
            ap (λ rs. rs ++ rows_after (length (before ++ events) + 1) (system_of new.system.value) later) same
            ∙ append_assoc so_far rows (rows_after (length (before ++ events) + 1) (system_of new.system.value) later)
            ∙ ap (λ n. so_far ++ (rows ++ rows_after (n + 1) (system_of new.system.value) later)) (sym counts)
            ∙ ap (λ rs. so_far ++ rs) (are.ahead later)
            ∙ ap (λ n. so_far ++ rows_after (n + 1) (system_of old.system.value) (events ++ later)) is.applied
            ∙ is.ahead (events ++ later)
            ∙ ap (model.rows version) (sym (append_assoc before events later));
      };
}

-- the lines of the rows are written at once
pub goes_on_alone : (old new : Fold) (events : List Event) (text : Written)
    → ((before : List Row) → old.text ≡ written before → text ≡ written (before ++ old.waiting.items))
    → Answers (λ (w : Written) (rows : List Row). w ≡ written rows) old.system.value text new.system.value new.text events → new.waiting.items ≡ []
    → GoesOn old new events
goes_on_alone old new events text lines (rows, are, takes) none =
    goes_on old new events rows are
    (λ before is.
    let all : List Row = (before ++ old.waiting.items) ++ rows in
    (all, takes (before ++ old.waiting.items) (lines before is), ap (λ rs. all ++ rs) none ∙ append-nil all))

-- the rows wait
pub goes_on_beside : (old new : Fold) (events : List Event) (kept : Vec Row Global)
    → ((before : List Row) → old.text ≡ written before → new.text ≡ written (before ++ old.waiting.items))
    → Answers (λ (v : Vec Row Global) (rows : List Row). v.items ≡ rows) old.system.value kept new.system.value new.waiting events → kept.items ≡ []
    → GoesOn old new events
goes_on_beside old new events kept lines (rows, are, takes) none =
    goes_on old new events rows are
    (λ before is.
    let written_now : List Row = before ++ old.waiting.items in
    (written_now, lines before is, ap (λ rs. written_now ++ rs) (takes [] none)))

pub reported : (version records : ℕ) (f : Fold) (events : List Event) (all : Written) (text : List ℕ) → IsFolded version f events
    → records ≡ f.system.value.applied → ((before : List Row) → f.text ≡ written before → all ≡ written (before ++ f.waiting.items))
    → text ≡ all.lines ++ last_line all.calls all.events records → text ≡ report_of version events
unfolding report_of
reported version records f events all text is counts lines end =
    let rows : List Row = is.rows ++ f.waiting.items in
    let whole : rows ≡ model.rows version events =
    sym (none_left (length events + 1) (system_of f.system.value) rows) ∙ is.ahead [] ∙ ap (model.rows version) (append-nil events) in
    report-is rows records all text (lines is.rows is.text) end
    ∙ ap (λ n. report rows n) (counts ∙ is.applied) ∙ ap (λ rs. report rs (length events)) whole

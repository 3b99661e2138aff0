-- A report that is written row by row.
use Rattle.std.proofs.Common.{◌≡◌, ◌∙◌, ◌+◌, ◌*◌, ◌<◌, ◌≤◌, ◌++◌, ℕ, List, [], ◌∷◌, length, codes, refl, sym, ap, ap₂, arith, rules, append-nil, append_assoc, length-append}
use Rattle.serde_json.specs.Data.{Data}
use Rattle.serde_json.specs.Written.{compact_text}
use Rattle.kq_model.specs.declared.reply.Reply.{Reply}
use Rattle.kq_model.specs.declared.reply.Reply.TheVariants.{Done, Events, Failed, Impossible}
use Rattle.kq_model.specs.declared.row.Row.{Row}
use Rattle.kq_model.specs.Errno.{error_number}
use Rattle.kq_model.specs.Report.{call_count, calls_in, event_count, events_data, events_in, last_line, reply_line, report, row_data, row_lines}
use Rattle.kq_model.specs.Spelling.{line_text, natural}
use Rattle.kq_text.specs.Adds.{Adds}
use Rattle.kq_merge.specs.Written.{Written, nothing_written, with_reply, written}

-- ---- a reply that counts as a call has a line, so there are no more calls than bytes

some-line : (d : Data) → 1 ≤ length (line_text d)
unfolding line_text
some-line d = omega (arith, length-append (compact_text d) (10 ∷ []))

pub calls-in-line : (at : ℕ) (r : Reply) → calls_in r ≤ length (reply_line at r)
unfolding calls_in reply_line
calls-in-line at Done = search rules
calls-in-line at (Events es) = some-line (row_data at (codes "events") (events_data es))
calls-in-line at (Failed e) = some-line (row_data at (codes "failed") (natural (error_number e)))
calls-in-line at (Impossible why) = search rules

one_call : (r : Reply) → calls_in r ≤ 1
unfolding calls_in
one_call Done = search rules
one_call (Events es) = search rules
one_call (Failed e) = search rules
one_call (Impossible why) = search rules

pub calls-in-rows : (rows : List Row) → call_count rows ≤ length rows
unfolding call_count
calls-in-rows [] = search rules
calls-in-rows (row ∷ rows) = omega (arith, one_call row.reply, calls-in-rows rows)

pub events-in-calls : (r : Reply) (n : ℕ) → n ≡ events_in r → n < 18446744073709551616 → n ≤ calls_in r * 18446744073709551616
unfolding calls_in events_in
events-in-calls Done n is lt = omega (arith, is)
events-in-calls (Events es) n is lt = omega (arith, lt)
events-in-calls (Failed e) n is lt = omega (arith, is)
events-in-calls (Impossible why) n is lt = omega (arith, is)

pub calls-in-lines : (at : ℕ) (r : Reply) (calls more : ℕ) (old new : List ℕ) → Adds old (reply_line at r) new → more ≡ calls_in r
    → calls ≤ length old → calls + more ≤ length new
calls-in-lines at r calls more old new added is within =
    let longer : length new ≡ length old + length (reply_line at r) = ap length added.is ∙ length-append old (reply_line at r) in
    omega (arith, longer, is, within, calls-in-line at r)

-- ---- rows one behind the other

pub lines-behind : (rows later : List Row) → row_lines (rows ++ later) ≡ row_lines rows ++ row_lines later
unfolding row_lines
lines-behind [] later = refl
lines-behind (row ∷ rows) later =
    ap (λ l. reply_line row.at row.reply ++ l) (lines-behind rows later)
    ∙ sym (append_assoc (reply_line row.at row.reply) (row_lines rows) (row_lines later))

calls-behind : (rows later : List Row) → call_count (rows ++ later) ≡ call_count rows + call_count later
unfolding call_count
calls-behind [] later = omega arith
calls-behind (row ∷ rows) later = omega (arith, calls-behind rows later)

events-behind : (rows later : List Row) → event_count (rows ++ later) ≡ event_count rows + event_count later
unfolding event_count
events-behind [] later = omega arith
events-behind (row ∷ rows) later = omega (arith, events-behind rows later)

pub nothing_is : nothing_written ≡ written []
unfolding row_lines call_count event_count
nothing_is = refl

-- ---- one row more

pub lines_more : (rows : List Row) (row : Row) → row_lines (rows ++ row ∷ []) ≡ row_lines rows ++ reply_line row.at row.reply
unfolding row_lines
lines_more rows row =
    lines-behind rows (row ∷ []) ∙ ap (λ l. row_lines rows ++ l) (append-nil (reply_line row.at row.reply))

pub calls_more : (rows : List Row) (row : Row) → call_count (rows ++ row ∷ []) ≡ call_count rows + calls_in row.reply
unfolding call_count
calls_more rows row = omega (arith, calls-behind rows (row ∷ []))

pub events_more : (rows : List Row) (row : Row) → event_count (rows ++ row ∷ []) ≡ event_count rows + events_in row.reply
unfolding event_count
events_more rows row = omega (arith, events-behind rows (row ∷ []))

written_more : (before : List Row) (row : Row) → written (before ++ row ∷ []) ≡ with_reply row.at row.reply (written before)
written_more before row =
    ap (λ (l : List ℕ). record { lines = l; calls = call_count (before ++ row ∷ []); events = event_count (before ++ row ∷ []) }) (lines_more before row)
    ∙ ap₂ (λ (c e : ℕ). record { lines = row_lines before ++ reply_line row.at row.reply; calls = c; events = e }) (calls_more before row) (events_more before row)

-- one row more is written
pub row_more : (before : List Row) (row : Row) (w : Written) → w ≡ written before → with_reply row.at row.reply w ≡ written (before ++ row ∷ [])
row_more before row w done = ap (with_reply row.at row.reply) done ∙ sym (written_more before row)

-- ---- the whole text

pub report-is : (rs : List Row) (records : ℕ) (w : Written) (text : List ℕ) → w ≡ written rs
    → text ≡ w.lines ++ last_line w.calls w.events records → text ≡ report rs records
unfolding report
report-is rs records w text all is = rw (is, all) refl

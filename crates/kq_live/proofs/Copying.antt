-- The events and the rows of a book, entry by entry.
use Rattle.std.proofs.Common.{◌≡◌, ◌∙◌, ◌+◌, ◌<◌, ◌≤◌, ℕ, List, [], ◌∷◌, ◌++◌, refl, sym, ap, ap₂, append-nil, append_assoc, add-one, drop, drop-cons, drop_of_length-le, get_or, length}
use Rattle.kq_lock.specs.declared.entry.Entry.{Entry}
use Rattle.kq_model.specs.declared.event.Event.{Event}
use Rattle.kq_model.specs.declared.reply.Reply.{Reply}
use Rattle.kq_model.specs.declared.row.Row.{Row}
use Rattle.kq_model.specs.System.{row_of, rows}
use Rattle.kq_live.specs.Recorded.{IsReplayed, Recorded, events_in, recorded, replies_in}
use Rattle.kq_live.specs.Replies.{rows_of}
use Rattle.kq_live.proofs.Replaying.{rows-replies}

abbrev LiveEntry : Type 0
LiveEntry = Entry Event Reply

drop_next : (es : List LiveEntry) (i : ℕ) (e : LiveEntry) → i < length es → e ≡ get_or es i e
    → drop i es ≡ e ∷ drop (i + 1) es
drop_next es i e lt is = drop-cons es i e lt ∙ ap₂ (λ x n. x ∷ drop n es) (sym is) (sym (add-one i))

-- ---- the events

-- one event more
pub kept_event : (es : List LiveEntry) (i : ℕ) (e : LiveEntry) (event : Event) (old new : List Event)
    → i < length es → e ≡ get_or es i e → event ≡ e.step → new ≡ old ++ event ∷ []
    → new ++ events_in (drop (i + 1) es) ≡ old ++ events_in (drop i es)
kept_event es i e event old new lt is same more =
    ap (λ (l : List Event). l ++ events_in (drop (i + 1) es)) (more ∙ ap (λ (x : Event). old ++ x ∷ []) same)
    ∙ (append_assoc old (e.step ∷ []) (events_in (drop (i + 1) es))
    ∙ ap (λ (l : List LiveEntry). old ++ events_in l) (sym (drop_next es i e lt is)))

-- none is left
pub events_end : (es : List LiveEntry) (i : ℕ) (out : List Event) → length es ≤ i
    → out ≡ out ++ events_in (drop i es)
events_end es i out past =
    sym (ap (λ (l : List LiveEntry). out ++ events_in l) (drop_of_length-le es past) ∙ append-nil out)

-- ---- the rows

rows_step : (es : List LiveEntry) (i : ℕ) (e : LiveEntry) → i < length es → e ≡ get_or es i e
    → rows_of (i + 1) (replies_in (drop i es))
    ≡ row_of (i + 1) e.answer ++ rows_of (i + 1 + 1) (replies_in (drop (i + 1) es))
unfolding rows_of
rows_step es i e lt is = ap (λ (l : List LiveEntry). rows_of (i + 1) (replies_in l)) (drop_next es i e lt is)

-- one reply more
pub kept_row : (es : List LiveEntry) (i at : ℕ) (e : LiveEntry) (reply : Reply) (old new : List Row)
    → i < length es → e ≡ get_or es i e → reply ≡ e.answer → at ≡ i + 1 → new ≡ old ++ row_of at reply
    → new ++ rows_of (i + 1 + 1) (replies_in (drop (i + 1) es)) ≡ old ++ rows_of (i + 1) (replies_in (drop i es))
kept_row es i at e reply old new lt is same place more =
    let rest = rows_of (i + 1 + 1) (replies_in (drop (i + 1) es)) in
    ap (λ (l : List Row). l ++ rest) (more ∙ ap₂ (λ (n : ℕ) (r : Reply). old ++ row_of n r) place same)
    ∙ (append_assoc old (row_of (i + 1) e.answer) rest
    ∙ ap (λ (l : List Row). old ++ l) (sym (rows_step es i e lt is)))

-- none is left
pub rows_end : (es : List LiveEntry) (i place : ℕ) (out : List Row) → length es ≤ i
    → out ≡ out ++ rows_of place (replies_in (drop i es))
unfolding rows_of
rows_end es i place out past =
    sym (ap (λ (l : List LiveEntry). out ++ rows_of place (replies_in l)) (drop_of_length-le es past) ∙ append-nil out)

-- the rows of a book's replies are those of its events
pub book_rows : (version : ℕ) (entries slice : List LiveEntry) (book : Recorded) → slice ≡ entries
    → IsReplayed (recorded version entries) → recorded version entries ≡ book
    → rows_of 1 (replies_in slice) ≡ rows book.version book.events
book_rows version entries slice book same replays is =
    ap (λ (l : List LiveEntry). rows_of 1 (replies_in l)) same
    ∙ (ap (rows_of 1) replays ∙ (rows-replies version (events_in entries)
    ∙ ap (λ (b : Recorded). rows b.version b.events) is))

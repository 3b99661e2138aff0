-- The rows of a trace, event by event.
use Rattle.std.proofs.Common.{◌≡◌, ◌∙◌, ◌+◌, ◌<◌, ◌≤◌, ℕ, List, [], ◌∷◌, ◌++◌, refl, sym, ap, ap₂, subst, append-nil, append_assoc, add-one, drop, drop-cons, drop_of_length-le, get_or, length}
use Rattle.kq_model.specs.declared.event.Event.{Event}
use Rattle.kq_model.specs.declared.reply.Reply.{Reply}
use Rattle.kq_model.specs.declared.reply.Reply.TheVariants as reply
use Rattle.kq_model.specs.declared.row.Row.{Row}
use Rattle.kq_model.specs.System.{empty_system, row_of, rows, rows_after, rows_by, step}
use Rattle.kq_model.specs.Tallied.{System}
use Rattle.kq_model.proofs.RecastSystem.{rows-tallied}
use Rattle.kq_system.specs.SystemState.{IsStep}

pub row_of-done : (at : ℕ) (old : List Row) → old ≡ old ++ row_of at reply.Done
unfolding row_of
row_of-done at old = sym (append-nil old)

pub row_of-other : (at : ℕ) (r : Reply) → (r ≡ reply.Done → ⊥) → row_of at r ≡ record { at = at; reply = r } ∷ []
unfolding row_of
row_of-other at reply.Done other = absurd (other refl)
row_of-other at (reply.Events events) other = refl
row_of-other at (reply.Failed e) other = refl
row_of-other at (reply.Impossible why) other = refl

pub rows-begin : (version : ℕ) (es : List Event) (s : System) → s ≡ empty_system version
    → rows_after 1 s es ≡ rows version es
unfolding rows_by
rows-begin version es s is = ap (λ (t : System). rows_after 1 t es) is ∙ sym (rows-tallied version es)

pub drop_next : {X : Type 0} (es : List X) (i : ℕ) (e : X) → i < length es → e ≡ get_or es i e → drop i es ≡ e ∷ drop (i + 1) es
drop_next es i e lt is = drop-cons es i e lt ∙ ap₂ (λ x n. x ∷ drop n es) (sym is) (sym (add-one i))

rows_step : (es : List Event) (i : ℕ) (e : Event) (s : System) → i < length es → e ≡ get_or es i e
    → rows_after (i + 1) s (drop i es) ≡ row_of (i + 1) (step (i + 1) e s).reply ++ rows_after (i + 1 + 1)
    (step (i + 1) e s).system (drop (i + 1) es)
unfolding rows_after
rows_step es i e s lt is = ap (rows_after (i + 1) s) (drop_next es i e lt is)

-- one event more
pub kept_row : (es : List Event) (i : ℕ) (e : Event) (at n : ℕ) (s s' : System) (r : Reply) (old new : List Row)
    → i < length es → e ≡ get_or es i e
    → IsStep (n + 1) e s s' r → n ≡ i → at ≡ i + 1 → new ≡ old ++ row_of at r
    → new ++ rows_after (i + 1 + 1) s' (drop (i + 1) es) ≡ old ++ rows_after (i + 1) s (drop i es)
kept_row es i e at n s s' r old new lt is steps place same row =
    let now : IsStep (i + 1) e s s' r = subst (λ p. IsStep (p + 1) e s s' r) place steps in
    rw (row, same, now.1, now.0)
    (append_assoc old (row_of (i + 1) (step (i + 1) e s).reply)
    (rows_after (i + 1 + 1) (step (i + 1) e s).system (drop (i + 1) es))
    ∙ ap (λ l. old ++ l) (sym (rows_step es i e s lt is)))

-- none is left
pub rows-end : (es : List Event) (i : ℕ) (place : ℕ) (s : System) (out : List Row) → length es ≤ i
    → out ≡ out ++ rows_after place s (drop i es)
unfolding rows_after
rows-end es i place s out past = let none : drop i es ≡ [] = drop_of_length-le es past in rw none (sym (append-nil out))

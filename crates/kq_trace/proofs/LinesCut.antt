-- A text is cut behind one of its line feeds.
use Rattle.std.proofs.Common.{◌≡◌, ℕ, zero, suc, ◌<◌, Bool, true, false, ◌==◌, cond, List, [], ◌∷◌, ◌++◌, length, take, drop, get_or, refl, sym, ap, ◌∙◌, append_assoc, append-nil, arith}
use Rattle.std.proofs.lemmas.List.{take-append-drop}
use Rattle.kq_model.specs.Lines.{onto_first, pieces_of, without_empty_end}
use Rattle.kq_spell.proofs.Lines.{some_piece}
use Rattle.kq_trace.specs.Blocks.{EndsLine}
use Rattle.kq_trace.specs.Rest.{lines_behind}

-- the pieces of a text that a line feed follows
closed : List ℕ → List (List ℕ)
closed [] = [] ∷ []
closed (b ∷ bs) = cond (b == 10) ([] ∷ closed bs) (onto_first b (closed bs))

some_onto : (c : Bool) (b : ℕ) (pieces : List (List ℕ))
    → (q : List ℕ) × (qs : List (List ℕ)) × (cond c ([] ∷ pieces) (onto_first b pieces) ≡ q ∷ qs)
unfolding onto_first
some_onto true b pieces = ([], pieces, refl)
some_onto false b [] = (b ∷ [], [], refl)
some_onto false b (piece ∷ pieces) = (b ∷ piece, pieces, refl)

some_closed : (text : List ℕ) → (q : List ℕ) × (qs : List (List ℕ)) × (closed text ≡ q ∷ qs)
unfolding closed
some_closed [] = ([], [], refl)
some_closed (b ∷ bs) = some_onto (b == 10) b (closed bs)

onto_front : (c : Bool) (b : ℕ) (q : List ℕ) (qs later : List (List ℕ))
    → cond c ([] ∷ ((q ∷ qs) ++ later)) (onto_first b ((q ∷ qs) ++ later)) ≡ cond c ([] ∷ (q ∷ qs)) (onto_first b (q ∷ qs)) ++ later
unfolding onto_first
onto_front true b q qs later = refl
onto_front false b q qs later = refl

onto_some : (c : Bool) (b : ℕ) (text : List ℕ) (later : List (List ℕ))
    → cond c ([] ∷ (closed text ++ later)) (onto_first b (closed text ++ later)) ≡ cond c ([] ∷ closed text) (onto_first b (closed text)) ++ later
onto_some c b text later = let some = some_closed text in rw some.2 (onto_front c b some.0 some.1 later)

pieces_cut : (text : List ℕ) (k : ℕ) (later : List ℕ) → k < length text → (get_or text k 0 == 10) ≡ true
    → pieces_of (take (suc k) text ++ later) ≡ closed (take k text) ++ pieces_of later
unfolding pieces_of closed
pieces_cut [] k later lt here = absurd (omega (arith, lt))
pieces_cut (b ∷ bs) zero later lt here = rw here refl
pieces_cut (b ∷ bs) (suc k) later lt here =
    ap (λ ps. cond (b == 10) ([] ∷ ps) (onto_first b ps)) (pieces_cut bs k later (omega (arith, lt)) here)
    ∙ onto_some (b == 10) b (take k bs) (pieces_of later)

keeps_at : (piece q : List ℕ) (qs : List (List ℕ)) → without_empty_end (piece ∷ q ∷ qs) ≡ piece ∷ without_empty_end (q ∷ qs)
unfolding without_empty_end
keeps_at [] q qs = refl
keeps_at (b ∷ bs) q qs = refl

keeps_all : (ps : List (List ℕ)) (q : List ℕ) (qs : List (List ℕ)) → without_empty_end (ps ++ q ∷ qs) ≡ ps ++ without_empty_end (q ∷ qs)
keeps_all [] q qs = refl
keeps_all (p ∷ []) q qs = keeps_at p q qs
keeps_all (p ∷ r ∷ ps) q qs = keeps_at p r (ps ++ q ∷ qs) ∙ ap (λ l. p ∷ l) (keeps_all (r ∷ ps) q qs)

closed_then : (text later : List ℕ) → without_empty_end (closed text ++ pieces_of later) ≡ closed text ++ lines_behind later
unfolding lines_behind
closed_then text later = let some = some_piece later in rw some.2 (keeps_all (closed text) some.0 some.1)

lines_cut : (text : List ℕ) (k : ℕ) (later : List ℕ) → k < length text → (get_or text k 0 == 10) ≡ true
    → lines_behind (take (suc k) text ++ later) ≡ closed (take k text) ++ lines_behind later
unfolding lines_behind
lines_cut text k later lt here = ap without_empty_end (pieces_cut text k later lt here) ∙ closed_then (take k text) later

pub no_lines : lines_behind [] ≡ []
unfolding lines_behind pieces_of without_empty_end
no_lines = refl

-- behind its line feed at this place
pub cut_lines : (text : List ℕ) (k : ℕ) → k < length text → (get_or text k 0 == 10) ≡ true
    → lines_behind text ≡ lines_behind (take (suc k) text) ++ lines_behind (drop (suc k) text)
cut_lines text k lt here =
    let front : lines_behind (take (suc k) text) ≡ closed (take k text) =
    ap lines_behind (sym (append-nil (take (suc k) text))) ∙ lines_cut text k [] lt here
    ∙ ap (λ l. closed (take k text) ++ l) no_lines ∙ append-nil (closed (take k text)) in
    ap lines_behind (sym (take-append-drop (suc k) text)) ∙ lines_cut text k (drop (suc k) text) lt here
    ∙ ap (λ l. l ++ lines_behind (drop (suc k) text)) (sym front)

-- and with nothing behind it
pub uncut_lines : (text : List ℕ) → lines_behind text ≡ lines_behind text ++ lines_behind []
uncut_lines text = sym (ap (λ l. lines_behind text ++ l) no_lines ∙ append-nil (lines_behind text))

-- ---- a text that a line ends, with what follows it

pieces_closed : (front later : List ℕ) → pieces_of (front ++ 10 ∷ later) ≡ closed front ++ pieces_of later
unfolding pieces_of closed
pieces_closed [] later = refl
pieces_closed (b ∷ bs) later =
    ap (λ ps. cond (b == 10) ([] ∷ ps) (onto_first b ps)) (pieces_closed bs later) ∙ onto_some (b == 10) b bs (pieces_of later)

closed_lines : (front later : List ℕ) → lines_behind (front ++ 10 ∷ later) ≡ closed front ++ lines_behind later
unfolding lines_behind
closed_lines front later = ap without_empty_end (pieces_closed front later) ∙ closed_then front later

pub line_then : (text later : List ℕ) → EndsLine text → lines_behind (text ++ later) ≡ lines_behind text ++ lines_behind later
line_then text later (front, is) =
    let whole : lines_behind text ≡ closed front =
    ap lines_behind is ∙ closed_lines front [] ∙ ap (λ l. closed front ++ l) no_lines ∙ append-nil (closed front) in
    ap (λ t. lines_behind (t ++ later)) is ∙ ap lines_behind (append_assoc front (10 ∷ []) later) ∙ closed_lines front later
    ∙ ap (λ l. l ++ lines_behind later) (sym whole)

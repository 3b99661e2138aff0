-- The lines of blocks of a text.
use Rattle.std.proofs.Common.{◌≡◌, ℕ, zero, suc, ◌<◌, Bool, true, false, ◌==◌, cond, List, [], ◌∷◌, ◌++◌, length, take, get_or, refl, sym, ap, ◌∙◌, append-nil, arith, length-append}
use Rattle.std.proofs.lemmas.Bool.{eqb-true}
use Rattle.kq_model.specs.Lines.{lines_among, lines_of, onto_first, pieces_of, without_empty_end}
use Rattle.kq_spell.proofs.Lines.{some_piece}
use Rattle.kq_trace.specs.Blocks.{EndsLine}
use Rattle.kq_trace.specs.Rest.{lines_behind}
use Rattle.kq_trace.proofs.LinesCut.{no_lines}

-- a text up to one of its line feeds
pub take_line : (text : List ℕ) (k : ℕ) → k < length text → (get_or text k 0 == 10) ≡ true → EndsLine (take (suc k) text)
take_line [] k lt here = absurd (omega (arith, lt))
take_line (b ∷ bs) zero lt here = ([], ap (λ x. x ∷ []) (eqb-true b 10 here))
take_line (b ∷ bs) (suc k) lt here = let it = take_line bs k (omega (arith, lt)) here in (b ∷ it.0, ap (λ l. b ∷ l) it.1)

pub some_byte : (text : List ℕ) → EndsLine text → 0 < length text
some_byte text (front, is) = omega (arith, ap length is, length-append front (10 ∷ []))

-- ---- a text that is not empty has a line, and is no different where it is the first

some_line_if : (c : Bool) (b : ℕ) (bs : List ℕ) → 0 < length (without_empty_end (cond c ([] ∷ pieces_of bs) (onto_first b (pieces_of bs))))
unfolding onto_first without_empty_end
some_line_if true b bs = let some = some_piece bs in rw some.2 (omega arith)
some_line_if false b bs = let some = some_piece bs in rw some.2 (omega arith)

pub some_line : (text : List ℕ) → 0 < length text → 0 < length (lines_behind text)
unfolding lines_behind pieces_of
some_line [] some = absurd (omega (arith, some))
some_line (b ∷ bs) some = some_line_if (b == 10) b bs

same_if : (c : Bool) (b : ℕ) (bs : List ℕ) → lines_among (cond c ([] ∷ pieces_of bs) (onto_first b (pieces_of bs)))
    ≡ without_empty_end (cond c ([] ∷ pieces_of bs) (onto_first b (pieces_of bs)))
unfolding onto_first without_empty_end lines_among
same_if true b bs = let some = some_piece bs in rw some.2 refl
same_if false b bs = let some = some_piece bs in rw some.2 refl

same_lines : (text : List ℕ) → 0 < length text → lines_of text ≡ lines_behind text
unfolding lines_of lines_behind pieces_of
same_lines [] some = absurd (omega (arith, some))
same_lines (b ∷ bs) some = same_if (b == 10) b bs

-- ---- the first block

no_block : (text rest : List ℕ) → lines_behind text ≡ lines_behind [] ++ lines_behind rest → rest ≡ [] → lines_of text ≡ lines_of [] ++ lines_behind rest
unfolding lines_of lines_among pieces_of without_empty_end
no_block [] rest cut none = sym (ap (λ t. lines_of [] ++ lines_behind t) none ∙ ap (λ l. lines_of [] ++ l) no_lines ∙ append-nil (lines_of []))
no_block (b ∷ bs) rest cut none =
    let empty : lines_behind (b ∷ bs) ≡ [] =
    cut ∙ ap (λ t. lines_behind [] ++ lines_behind t) none ∙ ap (λ l. l ++ l) no_lines in
    absurd (omega (arith, some_line (b ∷ bs) (omega arith), ap length empty))

some_block : (text block rest : List ℕ) → 0 < length block → lines_behind text ≡ lines_behind block ++ lines_behind rest
    → lines_of text ≡ lines_of block ++ lines_behind rest
some_block [] block rest some cut =
    absurd (omega (arith, some_line block some, ap length no_lines, ap length cut, length-append (lines_behind block) (lines_behind rest)))
some_block (b ∷ bs) block rest some cut =
    same_lines (b ∷ bs) (omega arith) ∙ cut ∙ ap (λ l. l ++ lines_behind rest) (sym (same_lines block some))

pub first_lines : (text block rest : List ℕ) → lines_behind text ≡ lines_behind block ++ lines_behind rest → (length block ≡ 0 → rest ≡ [])
    → lines_of text ≡ lines_of block ++ lines_behind rest
first_lines text [] rest cut none = no_block text rest cut (none refl)
first_lines text (b ∷ bs) rest cut none = some_block text (b ∷ bs) rest (omega arith) cut

-- A text is cut at its first line feed.
use Rattle.std.proofs.Common.{◌≡◌, ℕ, zero, suc, ◌-◌, ◌<◌, Bool, true, false, ◌==◌, List, [], ◌∷◌, length, take, drop, get_or, refl, arith}
use Rattle.std.proofs.lemmas.Grind.{common_steps}
use Rattle.kq_model.specs.Lines.{onto_first, pieces_of, without_empty_end, lines_among, lines_of}
use Rattle.kq_spell.proofs.Lines.{keeps}
use Rattle.kq_trace.specs.Rest.{lines_behind}

-- no line feed stands below this place
abbrev pub NoneBelow : List ℕ → ℕ → Type 0
NoneBelow text k = (j : ℕ) → j < k → (get_or text j 0 == 10) ≡ true → ⊥

not_true : (b : Bool) → (b ≡ true → ⊥) → b ≡ false
not_true true h = absurd (h refl)
not_true false h = refl

below_tail : (b : ℕ) (bs : List ℕ) (k : ℕ) → NoneBelow (b ∷ bs) (suc k) → NoneBelow bs k
below_tail b bs k none = λ j lt e. none (suc j) (omega arith) e

pub cut_at : (text : List ℕ) (k : ℕ) → k < length text → NoneBelow text k → (get_or text k 0 == 10) ≡ true
    → pieces_of text ≡ take k text ∷ pieces_of (drop (suc k) text)
unfolding pieces_of onto_first
cut_at [] k lt none here = absurd (omega arith)
cut_at (b ∷ bs) zero lt none here = rw here refl
cut_at (b ∷ bs) (suc k) lt none here =
    rw (not_true _ (none 0 (omega arith)), cut_at bs k (omega arith) (below_tail b bs k none) here) refl

pub uncut : (text : List ℕ) → NoneBelow text (length text) → pieces_of text ≡ text ∷ []
unfolding pieces_of onto_first
uncut [] none = refl
uncut (b ∷ bs) none = rw (not_true _ (none 0 (omega arith)), uncut bs (below_tail b bs (length bs) none)) refl

pub first_cut : (text : List ℕ) (k : ℕ) → k < length text → NoneBelow text k → (get_or text k 0 == 10) ≡ true
    → lines_of text ≡ take k text ∷ lines_behind (drop (suc k) text)
unfolding lines_of lines_among lines_behind
first_cut text k lt none here = rw (cut_at text k lt none here) refl

pub later_cut : (text : List ℕ) (k : ℕ) → k < length text → NoneBelow text k → (get_or text k 0 == 10) ≡ true
    → lines_behind text ≡ take k text ∷ lines_behind (drop (suc k) text)
unfolding lines_behind
later_cut text k lt none here = rw (cut_at text k lt none here) (keeps (take k text) (drop (suc k) text))

pub first_uncut : (text : List ℕ) → NoneBelow text (length text) → lines_of text ≡ text ∷ lines_behind []
unfolding lines_of lines_among lines_behind pieces_of without_empty_end
first_uncut text none = rw (uncut text none) refl

later_alone : (text : List ℕ) → 0 < length text → without_empty_end (text ∷ []) ≡ text ∷ []
unfolding without_empty_end
later_alone [] some = absurd (omega arith)
later_alone (b ∷ bs) some = refl

pub later_uncut : (text : List ℕ) → 0 < length text → NoneBelow text (length text) → lines_behind text ≡ text ∷ lines_behind []
unfolding lines_behind pieces_of without_empty_end
later_uncut text some none = rw (uncut text none) (later_alone text some)

-- what `&text[end..]` holds
pub behind : (text : List ℕ) (n : ℕ) → take (length text - n) (drop n text) ≡ drop n text
behind text n = grind (arith, common_steps)

pub nothing_behind : (text : List ℕ) → take (length text - length text) (drop (length text) text) ≡ []
nothing_behind text = grind (arith, common_steps)

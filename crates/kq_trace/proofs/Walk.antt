-- A list of values, a value at a time.
use Rattle.std.proofs.Common.{◌≡◌, ℕ, ◌+◌, ◌<◌, List, [], ◌∷◌, ◌++◌, length, drop, get_or, Option, Some, None, refl, sym, ap, ◌∙◌, add-one, drop-cons, append_assoc}
use Rattle.serde_json.specs.Data.{item}
use Rattle.serde_json.specs.View.{view, items_view}
use Rattle.serde_json.specs.declared.value.Value.{Value}
use Rattle.kq_model.specs.declared.change.Change.{Change}
use Rattle.kq_model.specs.ChangeText.{change_of, changes_of, prepended}

-- the values from the place of v on
pub from_place : (vs : List Value) (i : ℕ) (v : Value) → i < length vs → v ≡ get_or vs i v
    → items_view (drop i vs) ≡ item (view v) (items_view (drop (i + 1) vs))
from_place vs i v lt is = ap items_view (drop-cons vs i v lt) ∙ rw (sym is, add-one i) refl

-- changes that follow those that were read before
abbrev pub behind_changes : List Change → Option (List Change) → Option (List Change)
behind_changes before None = None
behind_changes before (Some changes) = Some (before ++ changes)

pub one_more : (before : List Change) (c : Change) (rest : Option (List Change))
    → behind_changes before (prepended (Some c) rest) ≡ behind_changes (before ++ c ∷ []) rest
unfolding prepended
one_more before c None = refl
one_more before c (Some changes) = ap Some (sym (append_assoc before (c ∷ []) changes))

pub none_before : (rest : Option (List Change)) → rest ≡ behind_changes [] rest
none_before None = refl
none_before (Some changes) = refl

-- a value that is no change in range ends the list
pub stops : (vs : List Value) (i : ℕ) (v : Value) (before : List Change) (all : Option (List Change))
    → i < length vs → v ≡ get_or vs i v → None ≡ change_of (view v)
    → all ≡ behind_changes before (changes_of (items_view (drop i vs))) → None ≡ all
unfolding changes_of prepended
stops vs i v before all lt is refused so_far =
    sym (so_far ∙ ap (λ ds. behind_changes before (changes_of ds)) (from_place vs i v lt is)
    ∙ ap (λ o. behind_changes before (prepended o (changes_of (items_view (drop (i + 1) vs))))) (sym refused))

-- a change goes behind those before it
pub goes_on : (vs : List Value) (i : ℕ) (v : Value) (c : Change) (before after : List Change) (all : Option (List Change))
    → i < length vs → v ≡ get_or vs i v → Some c ≡ change_of (view v) → after ≡ before ++ c ∷ []
    → all ≡ behind_changes before (changes_of (items_view (drop i vs)))
    → all ≡ behind_changes after (changes_of (items_view (drop (i + 1) vs)))
unfolding changes_of
goes_on vs i v c before after all lt is read added so_far =
    so_far ∙ ap (λ ds. behind_changes before (changes_of ds)) (from_place vs i v lt is)
    ∙ ap (λ o. behind_changes before (prepended o (changes_of (items_view (drop (i + 1) vs))))) (sym read)
    ∙ one_more before c (changes_of (items_view (drop (i + 1) vs)))
    ∙ ap (λ cs. behind_changes cs (changes_of (items_view (drop (i + 1) vs)))) (sym added)

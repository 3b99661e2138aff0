-- Lists of flags and of changes, an item at a time.
use Rattle.std.proofs.Common.{◌≡◌, ℕ, true, List, [], ◌∷◌, ◌++◌, bit_or, Option, Some, None, refl, sym, ap, ◌∙◌, append_assoc, append-nil}
use Rattle.bitflags.specs.Sets.{find_name}
use Rattle.json.specs.Spaced.{IsGap}
use Rattle.serde_json.specs.Data.{Data, Items, array, item, no_items, string}
use Rattle.kq_model.specs.declared.change.Change.{Change}
use Rattle.kq_model.specs.ChangeText.{are_changes, change_list, change_of, changes_of, flag_in, flags_among, flags_in, is_change, is_change_list, prepended}
use Rattle.kq_model.specs.FlagNames.{flag_table}
use Rattle.kq_line.specs.Names.{IsName}
use Rattle.kq_line.specs.Spells.{IsValue}
use Rattle.kq_line.specs.Values.{AreFlagNames, IsChange, IsChangeList}
use Rattle.kq_line.proofs.Owed.{ItemNext, ItemsOwed, items_begin, items_end, items_more, items_next, items_value, no_items_there}
use Rattle.kq_line.proofs.Scalar.{name_value}

-- ---- flags

abbrev Adds : (Items → Items) → ℕ → Type 0
Adds onto bits = (ds : Items) → flags_among 0 (onto ds) ≡ flags_among bits ds

-- these flags before the name that begins at `rest`
abbrev pub FlagsSoFar : List ℕ → List ℕ → ℕ → Type 0
FlagsSoFar start rest bits = (onto : Items → Items) × ItemNext 0 start rest onto × Adds onto bits

-- these flags behind the name that ends at `rest`
abbrev pub FlagsBehind : List ℕ → List ℕ → ℕ → Type 0
FlagsBehind start rest bits = (onto : Items → Items) × ItemsOwed 0 start rest true onto × Adds onto bits

pub flags_begin : (start : List ℕ) (bits : ℕ) → bits ≡ 0 → FlagsSoFar start start bits
flags_begin start bits none = (λ ds. ds, items_begin 0 start, λ ds. ap (λ b. flags_among b ds) (sym none))

flag_added : (bits flag after : ℕ) (name : List ℕ) (ds : Items) → find_name flag_table name ≡ Some flag → after ≡ bit_or bits flag
    → flags_among bits (item (string name) ds) ≡ flags_among after ds
unfolding flags_among flag_in
flag_added bits flag after name ds known is = rw (known, is) refl

pub flags_more : (start rest name tail : List ℕ) (bits flag after : ℕ) → FlagsSoFar start rest bits → IsName name → rest ≡ 34 ∷ (name ++ 34 ∷ tail)
    → find_name flag_table name ≡ Some flag → after ≡ bit_or bits flag → FlagsBehind start tail after
flags_more start rest name tail bits flag after so_far letters cut known is = (
  λ ds. so_far.0 (item (string name) ds),
  items_more 0 start rest tail so_far.0 (string name) so_far.1 (name_value rest name tail letters cut),
  λ ds. so_far.2 (item (string name) ds) ∙ flag_added bits flag after name ds known is,
)

pub flags_next : (start text rest gap behind : List ℕ) (bits : ℕ) → FlagsBehind start text bits → IsGap gap → text ≡ 44 ∷ behind → behind ≡ gap ++ rest
    → FlagsSoFar start rest bits
flags_next start text rest gap behind bits so_far blank comma cut =
    (so_far.0, items_next 0 start text rest gap behind so_far.0 so_far.1 blank comma cut, so_far.2)

pub flags_end : (start text tail : List ℕ) (bits : ℕ) → FlagsBehind start text bits → text ≡ 93 ∷ tail → AreFlagNames start bits tail
unfolding flags_in flags_among
flags_end start text tail bits so_far cut = (
  array (so_far.0 no_items),
  items_value 0 (91 ∷ start) start tail (so_far.0 no_items) refl (items_end 0 start text tail true so_far.0 so_far.1 cut),
  so_far.2 no_items,
)

pub no_flags : (text tail : List ℕ) (bits : ℕ) → bits ≡ 0 → text ≡ 93 ∷ tail → AreFlagNames text bits tail
unfolding flags_in flags_among
no_flags text tail bits none cut = (array no_items, items_value 0 (91 ∷ text) text tail no_items refl (no_items_there 0 text tail cut), ap Some (sym none))

-- ---- changes

-- changes behind those that were read before
abbrev pub behind_changes : List Change → Option (List Change) → Option (List Change)
behind_changes before None = None
behind_changes before (Some changes) = Some (before ++ changes)

abbrev Lists : (Items → Items) → List Change → Type 0
Lists onto changes = ((ds : Items) → are_changes (onto ds) ≡ are_changes ds) × ((ds : Items) → changes_of (onto ds) ≡ behind_changes changes (changes_of ds))

abbrev pub ChangesSoFar : List ℕ → List ℕ → List Change → Type 0
ChangesSoFar start rest changes = (onto : Items → Items) × ItemNext 2 start rest onto × Lists onto changes

abbrev pub ChangesBehind : List ℕ → List ℕ → List Change → Type 0
ChangesBehind start rest changes = (onto : Items → Items) × ItemsOwed 2 start rest true onto × Lists onto changes

none_before : (rest : Option (List Change)) → rest ≡ behind_changes [] rest
none_before None = refl
none_before (Some changes) = refl

one_more : (before : List Change) (c : Change) (rest : Option (List Change))
    → behind_changes before (prepended (Some c) rest) ≡ behind_changes (before ++ c ∷ []) rest
unfolding prepended
one_more before c None = refl
one_more before c (Some changes) = ap Some (sym (append_assoc before (c ∷ []) changes))

pub changes_begin : (start : List ℕ) (changes : List Change) → changes ≡ [] → ChangesSoFar start start changes
changes_begin start changes none =
    (λ ds. ds, items_begin 2 start, (λ ds. refl, λ ds. none_before (changes_of ds) ∙ ap (λ cs. behind_changes cs (changes_of ds)) (sym none)))

change_is : (d : Data) (ds : Items) → is_change d ≡ true → are_changes (item d ds) ≡ are_changes ds
unfolding are_changes
change_is d ds is = rw is refl

change_added : (changes after : List Change) (c : Change) (d : Data) (ds : Items) → change_of d ≡ Some c → after ≡ changes ++ c ∷ []
    → behind_changes changes (changes_of (item d ds)) ≡ behind_changes after (changes_of ds)
unfolding changes_of
change_added changes after c d ds is added =
    ap (λ o. behind_changes changes (prepended o (changes_of ds))) is ∙ one_more changes c (changes_of ds)
    ∙ ap (λ cs. behind_changes cs (changes_of ds)) (sym added)

pub changes_more : (start rest tail : List ℕ) (changes after : List Change) (c : Change) → ChangesSoFar start rest changes → IsChange rest c tail
    → after ≡ changes ++ c ∷ [] → ChangesBehind start tail after
changes_more start rest tail changes after c so_far change added = (
  λ ds. so_far.0 (item change.0 ds),
  items_more 2 start rest tail so_far.0 change.0 so_far.1 change.1,
  (
    λ ds. so_far.2.0 (item change.0 ds) ∙ change_is change.0 ds change.2,
    λ ds. so_far.2.1 (item change.0 ds) ∙ change_added changes after c change.0 ds change.3 added,
  ),
)

pub changes_next : (start text rest gap behind : List ℕ) (changes : List Change) → ChangesBehind start text changes → IsGap gap → text ≡ 44 ∷ behind
    → behind ≡ gap ++ rest → ChangesSoFar start rest changes
changes_next start text rest gap behind changes so_far blank comma cut =
    (so_far.0, items_next 2 start text rest gap behind so_far.0 so_far.1 blank comma cut, so_far.2)

pub changes_end : (start text tail : List ℕ) (changes : List Change) → ChangesBehind start text changes → text ≡ 93 ∷ tail → IsChangeList start changes tail
unfolding are_changes changes_of
changes_end start text tail changes so_far cut = (
  so_far.0 no_items,
  items_end 2 start text tail true so_far.0 so_far.1 cut,
  so_far.2.0 no_items,
  so_far.2.1 no_items ∙ ap Some (append-nil changes),
)

pub no_changes : (text tail : List ℕ) (changes : List Change) → changes ≡ [] → text ≡ 93 ∷ tail → IsChangeList text changes tail
unfolding are_changes changes_of
no_changes text tail changes none cut = (no_items, no_items_there 2 text tail cut, refl, ap Some (sym none))

-- a list of changes as a value
pub changes_value : (text items tail : List ℕ) (changes : List Change) → text ≡ 91 ∷ items → IsChangeList items changes tail
    → (d : Data) × IsValue 3 text tail d × (is_change_list d ≡ true) × (change_list d ≡ Some changes)
unfolding is_change_list change_list
changes_value text items tail changes cut all = (array all.0, items_value 2 text items tail all.0 cut all.1, all.2, all.3)

-- The indexes made anew: a walk over knotes comes to each, and what was put under keys stays there.
use Rattle.std.proofs.Common.{◌≡◌, ◌∙◌, ◌+◌, ◌≤◌, ℕ, zero, suc, false, cond, List, [], ◌∷◌, take, get_or, length, Option, None, Some, slice_get, sym, ap, subst, arith}
use Rattle.std.proofs.lemmas.List.{take_all, take_more}
use Rattle.std.proofs.lemmas.List.Elements.{All-push}
use Rattle.std.proofs.lemmas.Option.{get_or_from_slice_get, none-some, same_Some, slice_get_within}
use Rattle.std.specs.Prelude.{All}
use Rattle.kq_model.specs.declared.key.Key.{Key}
use Rattle.kq_model.specs.Knote.{find_knote, key_eq}
use Rattle.kq_model.specs.Kqueue.{HaveOwnKeys}
use Rattle.kq_model.specs.Tallied.{Knote}
use Rattle.kq_model.proofs.KeyLaws.{key_eq-refl, key_eq-sym}
use Rattle.kq_model.proofs.KnoteLaws.{find_knote-head, find_knote-tail}
use Rattle.kq_table.specs.Rows.{row_after}
use Rattle.kq_system.specs.Showing.{Each}
use Rattle.kq_system.specs.SystemState.{NumberedKqueue}
use Rattle.kq_system.proofs.ShowLemmas.{Each-push, Entries}

-- ---- a walk over knotes

abbrev after : Key → List Knote → Option Knote
after key ks = row_after key_eq (λ (k : Knote). k.key) key ks

after-here : (k : Knote) (ks : List Knote) → after k.key (k ∷ ks) ≡ slice_get ks 0
unfolding row_after
after-here k ks = ap (λ b. cond b (slice_get ks 0) (after k.key ks)) (key_eq-refl k.key)

after-later : (key : Key) (x : Knote) (ks : List Knote) → key_eq key x.key ≡ false → after key (x ∷ ks) ≡ after key ks
unfolding row_after
after-later key x ks apart = ap (λ b. cond b (slice_get ks 0) (after key ks)) apart

-- a knote has no key that no knote has
apart-from : (key : Key) (ks : List Knote) (i : ℕ) (k : Knote) → find_knote key ks ≡ None → slice_get ks i ≡ Some k
    → key_eq k.key key ≡ false
apart-from key [] i k absent is = absurd (none-some k is)
apart-from key (x ∷ ks) zero k absent is =
    subst (λ (k : Knote). key_eq k.key key ≡ false) (same_Some x k is)
    (key_eq-sym x.key key ∙ find_knote-head key x ks absent)
apart-from key (x ∷ ks) (suc i) k absent is = apart-from key ks i k (find_knote-tail key x ks absent) is

-- next after the knote of a place comes that of the next place
pub next-place : (ks : List Knote) (i : ℕ) (k : Knote) → HaveOwnKeys ks → slice_get ks i ≡ Some k
    → after k.key ks ≡ slice_get ks (suc i)
next-place [] i k own is = absurd (none-some k is)
next-place (x ∷ ks) zero k own is =
    subst (λ (k : Knote). after k.key (x ∷ ks) ≡ slice_get ks 0) (same_Some x k is) (after-here x ks)
next-place (x ∷ ks) (suc i) k own is =
    after-later k.key x ks (apart-from x.key ks i k own.0 is) ∙ next-place ks i k own.1 is

-- what holds of the first of them, and of the next
pub All-next : {X : Type 0} (P : X → Type 0) (xs : List X) (i : ℕ) (x : X) → slice_get xs i ≡ Some x
    → All P (take i xs) → P x → All P (take (i + 1) xs)
All-next P xs i x is all here =
    subst (All P) (sym (take_more xs i x (slice_get_within xs i x is)))
    (All-push P (take i xs) (get_or xs i x) all (subst P (sym (get_or_from_slice_get xs i x x is)) here))

past_end : {X : Type 0} (xs : List X) (i : ℕ) → slice_get xs i ≡ None → length xs ≤ i
past_end [] i none = omega arith
past_end (x ∷ xs) zero none = absurd (none-some x (sym none))
past_end (x ∷ xs) (suc i) none = let rest = past_end xs i none in omega (arith, rest)

pub All-none : {X : Type 0} (P : X → Type 0) (xs : List X) (i : ℕ) → slice_get xs i ≡ None → All P (take i xs) → All P xs
All-none P xs i none all = subst (All P) (take_all i xs (past_end xs i none)) all

pub All-end : {X : Type 0} (P : X → Type 0) (xs : List X) (i : ℕ) → length xs ≤ i → All P (take i xs) → All P xs
All-end P xs i past all = subst (All P) (take_all i xs past) all

-- ---- a walk over kqueues

pub Each-next : (P : ℕ → NumberedKqueue → Type 0) (es : Entries) (i : ℕ) (e : ℕ × NumberedKqueue) → slice_get es i ≡ Some e
    → Each P (take i es) → P e.0 e.1 → Each P (take (i + 1) es)
Each-next P es i e is all here =
    subst (Each P) (sym (take_more es i e (slice_get_within es i e is)))
    (Each-push P (take i es) (get_or es i e) all
    (subst (λ (e : ℕ × NumberedKqueue). P e.0 e.1) (sym (get_or_from_slice_get es i e e is)) here))

pub Each-none : (P : ℕ → NumberedKqueue → Type 0) (es : Entries) (i : ℕ) → slice_get es i ≡ None → Each P (take i es)
    → Each P es
Each-none P es i none all = subst (Each P) (take_all i es (past_end es i none)) all

pub Each-end : (P : ℕ → NumberedKqueue → Type 0) (es : Entries) (i : ℕ) → length es ≤ i → Each P (take i es) → Each P es
Each-end P es i past all = subst (Each P) (take_all i es past) all

-- Places in a list, and one that is put between them.
use Rattle.std.proofs.Common.{◌≡◌, ◌||◌, ◌<◌, ◌++◌, ℕ, zero, suc, Bool, true, false, cond, List, [], ◌∷◌, take, drop, get_or, length, nat_eq, nat_lt, slice_index_or, Less, Equal, Greater, refl, arith}
use Rattle.std.proofs.lemmas.Bool.Decides.{nat_tests}
use Rattle.std.specs.List.{insert, list_any}
use Rattle.std.specs.Ordering.{nat_cmp}
use Rattle.kq_system.specs.Places.{has_place}
use Rattle.kq_system.proofs.ShowLemmas.{by_test}

-- at an index
pub any-at : (t : ℕ → Bool) (xs : List ℕ) (i d : ℕ) → i < length xs → t (get_or xs i d) ≡ true → list_any t xs ≡ true
any-at t [] i d lt is = absurd (omega (arith, lt))
any-at t (x ∷ xs) zero d lt is = by_test (λ b. b ≡ true → (b || list_any t xs) ≡ true) (t x) (λ _ _. refl) (λ _ no. absurd (cc)) is
any-at t (x ∷ xs) (suc i) d lt is =
    let rest = any-at t xs i d (omega (arith, lt)) is in
    by_test (λ b. (b || list_any t xs) ≡ true) (t x) (λ _. refl) (λ _. rest)

-- what was found is found with one more
pub any-insert : (t : ℕ → Bool) (xs : List ℕ) (i x : ℕ) → list_any t xs ≡ true → list_any t (take i xs ++ x ∷ drop i xs) ≡ true
any-insert t xs zero x is = by_test (λ b. (b || list_any t xs) ≡ true) (t x) (λ _. refl) (λ _. is)
any-insert t [] (suc i) x is = absurd (cc)
any-insert t (y ∷ ys) (suc i) x is =
    by_test (λ b. (b || list_any t ys) ≡ true → (b || list_any t (take i ys ++ x ∷ drop i ys)) ≡ true) (t y) (λ _ _. refl)
    (λ _ rest. any-insert t ys i x rest) is

equal-places : (x y : ℕ) → nat_cmp x y ≡ Equal → nat_eq y x ≡ true
equal-places x y is =
    by_test (λ b. cond b Less (cond (nat_eq x y) Equal Greater) ≡ Equal → nat_eq y x ≡ true) (nat_lt x y)
    (λ _ no. absurd (cc))
    (λ _ other. by_test (λ b. nat_eq x y ≡ b → cond b Equal Greater ≡ Equal → nat_eq y x ≡ true) (nat_eq x y)
    (λ _ same _. grind (arith, nat_tests)) (λ _ _ no. absurd (cc)) refl other) is

-- a search by halves found it
pub has-found : (place : ℕ) (xs : List ℕ) (i : ℕ) → i < length xs → ((d : ℕ) → nat_cmp (slice_index_or xs i d) place ≡ Equal)
    → has_place place xs ≡ true
has-found place xs i lt found = any-at (nat_eq place) xs i 0 lt (equal-places (get_or xs i 0) place (found 0))

-- ---- whether or not it could be put there

pub kept-either : (p place : ℕ) (xs : List ℕ) (i : ℕ) (b : Bool) → has_place p xs ≡ true
    → has_place p (cond b (insert xs i place) xs) ≡ true
kept-either p place xs i true there = any-insert (nat_eq p) xs i place there
kept-either p place xs i false there = there

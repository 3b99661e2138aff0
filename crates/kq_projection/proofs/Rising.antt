-- Numbers that do not fall stand in one order only.
use Rattle.std.proofs.Common.{◌≡◌, ◌<◌, ◌≤◌, ◌==◌, ℕ, suc, ltb, List, [], ◌∷◌, length, refl, sym, ap₂, arith, if◌then◌else◌, get_or}
use Rattle.std.specs.List.{sum_by}
use Rattle.std.specs.List.Sorted.{IsNonDecreasing}
use Rattle.std.proofs.lemmas.Bool.{ltb-true, ltb-false}
use Rattle.std.proofs.lemmas.Bool.Decides.{nat_tests}
use Rattle.std.proofs.lemmas.List.Sums.{sum_by-cons}
use Rattle.kq_model.proofs.KnoteLaws.{by_test}

abbrev pub AreFrom : ℕ → List ℕ → Type 0
AreFrom n [] = Unit {0}
AreFrom n (x ∷ xs) = (n ≤ x) × AreFrom n xs

abbrev pub DoNotFall : List ℕ → Type 0
DoNotFall [] = Unit {0}
DoNotFall (x ∷ xs) = AreFrom x xs × DoNotFall xs

pub from_less : (n m : ℕ) (xs : List ℕ) → n ≤ m → AreFrom m xs → AreFrom n xs
from_less n m [] le all = tt
from_less n m (x ∷ xs) le all = (omega (arith, all.0), from_less n m xs le all.1)

-- ---- what the clause of a sort says

are_from : (n : ℕ) (xs : List ℕ) → ((k : ℕ) → k < length xs → n ≤ get_or xs k 0) → AreFrom n xs
are_from n [] all = tt
are_from n (x ∷ xs) all = (all 0 (omega arith), are_from n xs (λ k within. all (suc k) (omega (arith, within))))

pub do_not_fall : (xs : List ℕ) → IsNonDecreasing xs → DoNotFall xs
do_not_fall [] rises = tt
do_not_fall (x ∷ xs) rises = (
  are_from x xs (λ k within. rises 0 (suc k) 0 (omega arith) (omega (arith, within))),
  do_not_fall xs (λ i j d le within. rises (suc i) (suc j) d (omega (arith, le)) (omega (arith, within))),
)

-- ---- how often a number stands there

abbrev one_at : ℕ → ℕ → ℕ
one_at n x = if x == n then 1 else 0

one_here : (n : ℕ) → one_at n n ≡ 1
one_here n = grind (arith, nat_tests)

none_below : (n : ℕ) (xs : List ℕ) → AreFrom (suc n) xs → sum_by (one_at n) xs ≡ 0
none_below n [] all = refl
none_below n (x ∷ xs) all =
    let above : n < x = omega (arith, all.0) in
    let here : one_at n x ≡ 0 = grind (arith, nat_tests) in
    let there : sum_by (one_at n) xs ≡ 0 = none_below n xs all.1 in
    omega (arith, sum_by-cons (one_at n) x xs)

-- the lists have the same numbers, as far as sums tell
abbrev pub AreAlike : List ℕ → List ℕ → Type 0
AreAlike xs ys = (f : ℕ → ℕ) → sum_by f xs ≡ sum_by f ys

not_less : (x y : ℕ) (xs ys : List ℕ) → AreFrom y ys → AreAlike (x ∷ xs) (y ∷ ys) → x < y → ⊥
not_less x y xs ys all same less =
    let none : sum_by (one_at x) (y ∷ ys) ≡ 0 = none_below x (y ∷ ys) (omega (arith, less), from_less (suc x) y ys (omega (arith, less)) all) in
    let here : one_at x x ≡ 1 = one_here x in
    omega (arith, same (one_at x), sum_by-cons (one_at x) x xs)

not_above : (x y : ℕ) → (x < y → ⊥) → y ≤ x
not_above x y not_below =
    by_test (λ b. y ≤ x) (ltb x y)
    (λ is. absurd (not_below (ltb-true x y is)))
    (λ isnt. ltb-false x y isnt)

pub one_order : (xs ys : List ℕ) → DoNotFall xs → DoNotFall ys → AreAlike xs ys → xs ≡ ys
one_order [] [] falls rises same = refl
one_order [] (y ∷ ys) falls rises same = absurd (omega (arith, same (λ r. 1), sum_by-cons (λ (r : ℕ). 1) y ys))
one_order (x ∷ xs) [] falls rises same = absurd (omega (arith, same (λ r. 1), sum_by-cons (λ (r : ℕ). 1) x xs))
one_order (x ∷ xs) (y ∷ ys) falls rises same =
    let up : y ≤ x = not_above x y (not_less x y xs ys rises.0 same) in
    let down : x ≤ y = not_above y x (not_less y x ys xs falls.0 (λ f. sym (same f))) in
    let is : x ≡ y = omega (arith, up, down) in
    ap₂ (λ (n : ℕ) (ns : List ℕ). n ∷ ns) is
    (one_order xs ys falls.1 rises.1 (λ f. tails_alike f x y xs ys is (same f)))
  where
    tails_alike : (f : ℕ → ℕ) (x y : ℕ) (xs ys : List ℕ) → x ≡ y → sum_by f (x ∷ xs) ≡ sum_by f (y ∷ ys) → sum_by f xs ≡ sum_by f ys
    tails_alike f x y xs ys is same =
        let equal : f x ≡ f y = cc in
        omega (arith, sum_by-cons f x xs, sum_by-cons f y ys)

-- Lists and tests: what a search finds in a list that was joined or filtered.
use Rattle.std.proofs.Common.{◌≡◌, Bool, true, false, not, ◌||◌, List, [], ◌∷◌, ◌++◌, filter, refl, sym, ap, ◌∙◌, arith}
use Rattle.std.specs.List.{list_any}

-- two tests with one meaning give one answer
pub same_answer : (a b : Bool) → (a ≡ true → b ≡ true) → (b ≡ true → a ≡ true) → a ≡ b
same_answer true b f g = sym (f refl)
same_answer false true f g = g refl
same_answer false false f g = refl

or_assoc : (a b c : Bool) → a || (b || c) ≡ (a || b) || c
or_assoc true b c = refl
or_assoc false b c = refl

pub list_any-append : {A : Type 0} (p : A → Bool) (xs ys : List A) → list_any p (xs ++ ys) ≡ list_any p xs || list_any p ys
list_any-append p [] ys = refl
list_any-append p (x ∷ xs) ys =
    ap (λ t. p x || t) (list_any-append p xs ys) ∙ or_assoc (p x) (list_any p xs) (list_any p ys)

-- nothing is found that was filtered out
pub list_any-filter_same : {A : Type 0} (p : A → Bool) (xs : List A) → list_any p (filter (λ x. not (p x)) xs) ≡ false
list_any-filter_same p [] = refl
list_any-filter_same p (x ∷ xs) = grind (arith, list_any-filter_same p xs)

-- what another test finds is still found
pub list_any-filter_other : {A : Type 0} (p q : A → Bool) → ((x : A) → q x ≡ true → p x ≡ false) → (xs : List A) → list_any p (filter (λ x. not (q x)) xs) ≡ list_any p xs
list_any-filter_other p q apart [] = refl
list_any-filter_other p q apart (x ∷ xs) = grind (arith, list_any-filter_other p q apart xs, apart x)

-- What stands under a number after puts and removals.
use Rattle.std.proofs.Common.{◌≡◌, ℕ, ◌<◌, ◌≤◌, Bool, true, false, List, [], ◌∷◌, Some, None, inl, inr, refl, sym, ap, subst, arith, ◌∙◌}
use Rattle.std.proofs.lemmas.Bool.{cases_lt}
use Rattle.kq_process.specs.Shelf.{lookup, put, without, AreRising}
use Rattle.kq_process.proofs.Places.{AreAbove, above-lower, lookup-above, without-above, put-above, put-before, lookup-later, without-later, put-later, lookup-first, put-first, without-first}

-- how two numbers compare
pub data Order (m n : ℕ) : Type 0 where
  Below : m < n → Order m n
  Same : m ≡ n → Order m n
  Above : n < m → Order m n

pub order : (m n : ℕ) → Order m n
order m n = elim (cases_lt m n) [
  | inl below ↦ Below below
  | inr at_least ↦ elim (cases_lt n m) [ inl above ↦ Above above | inr at_most ↦ Same (omega arith) ]
]

-- a test, with its answer
pub data Test (b : Bool) : Type 0 where
  Yes : b ≡ true → Test b
  No : b ≡ false → Test b

pub test : (b : Bool) → Test b
test true = Yes refl
test false = No refl

module _ {X : Type 0} where
  pub lookup-put : (n : ℕ) (x : X) (es : List (ℕ × X)) → lookup n (put n x es) ≡ Some x
  lookup-put n x [] = lookup-first n (n, x) [] refl
  lookup-put n x (e ∷ es) = elim (order e.0 n) [
    | Below lt ↦ ap (lookup n) (put-later n x e es lt) ∙ lookup-later n e (put n x es) lt ∙ lookup-put n x es
    | Same is ↦ ap (lookup n) (put-first n x e es is) ∙ lookup-first n (n, x) es refl
    | Above lt ↦ ap (lookup n) (put-before n x e es lt) ∙ lookup-first n (n, x) (e ∷ es) refl
  ]

  pub put-put : (n : ℕ) (x y : X) (es : List (ℕ × X)) → put n x (put n y es) ≡ put n x es
  put-put n x y [] = put-first n x (n, y) [] refl
  put-put n x y (e ∷ es) = elim (order e.0 n) [
    | Below lt ↦ ap (put n x) (put-later n y e es lt) ∙ put-later n x e (put n y es) lt
        ∙ ap (λ t. e ∷ t) (put-put n x y es) ∙ sym (put-later n x e es lt)
    | Same is ↦ ap (put n x) (put-first n y e es is) ∙ put-first n x (n, y) es refl ∙ sym (put-first n x e es is)
    | Above lt ↦ ap (put n x) (put-before n y e es lt) ∙ put-first n x (n, y) (e ∷ es) refl
        ∙ sym (put-before n x e es lt)
  ]

  pub all-above : (n : ℕ) (e : ℕ × X) (es : List (ℕ × X)) → n < e.0 → AreAbove e.0 es → AreAbove n (e ∷ es)
  all-above n e es lt above = let le : n ≤ e.0 = omega arith in (lt, above-lower n e.0 es le above)

  pub lookup-without : (n : ℕ) (es : List (ℕ × X)) → AreRising es → lookup n (without n es) ≡ None
  lookup-without n [] rising = refl
  lookup-without n (e ∷ es) rising = elim (order e.0 n) [
    | Below lt ↦ ap (lookup n) (without-later n e es lt) ∙ lookup-later n e (without n es) lt
        ∙ lookup-without n es rising.1
    | Same is ↦ ap (lookup n) (without-first n e es is rising.0)
        ∙ lookup-above n es (subst (λ m. AreAbove m es) is rising.0)
    | Above lt ↦ ap (lookup n) (without-above n (e ∷ es) (all-above n e es lt rising.0))
        ∙ lookup-above n (e ∷ es) (all-above n e es lt rising.0)
  ]

  pub put-without : (n : ℕ) (x : X) (es : List (ℕ × X)) → AreRising es → put n x (without n es) ≡ put n x es
  put-without n x [] rising = refl
  put-without n x (e ∷ es) rising = elim (order e.0 n) [
    | Below lt ↦ ap (put n x) (without-later n e es lt) ∙ put-later n x e (without n es) lt
        ∙ ap (λ t. e ∷ t) (put-without n x es rising.1) ∙ sym (put-later n x e es lt)
    | Same is ↦ ap (put n x) (without-first n e es is rising.0)
        ∙ put-above n x es (subst (λ m. AreAbove m es) is rising.0) ∙ sym (put-first n x e es is)
    | Above lt ↦ ap (put n x) (without-above n (e ∷ es) (all-above n e es lt rising.0))
  ]

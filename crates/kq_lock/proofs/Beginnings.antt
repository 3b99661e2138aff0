-- Beginnings of lists, and lists of which one element changes.
use Rattle.std.proofs.Common.{◌≡◌, ℕ, zero, suc, ◌+◌, ◌≤◌, ◌<◌, List, [], ◌∷◌, ◌++◌, length, get_or}
use Rattle.std.proofs.Common.{set, sum_by, cond, true, false, ltb, Bool, refl, ap, sym, ◌∙◌, arith}
use Rattle.std.proofs.Common.{append_assoc, length-append}
use Rattle.std.proofs.lemmas.List.{append-nil}
use Rattle.std.proofs.lemmas.List.Sums.{sum_by-set}
use Rattle.std.proofs.lemmas.Bool.Decides.{nat_tests}
use mathlib.Core.List.{IsPrefix}
use mathlib.Core.Option.{some, some-injective, some-ne-none}
use lib.ListN.{get_elem?}
use Rattle.kq_lock.specs.Calls.{longer}

module _ {A : Type 0} where
  pub prefix_self : (xs : List A) → IsPrefix xs xs
  prefix_self xs = ([], append-nil xs)

  pub prefix_more : (xs ys zs : List A) → IsPrefix xs ys → IsPrefix xs (ys ++ zs)
  prefix_more xs ys zs p = (
    p.0 ++ zs,
    sym (append_assoc xs p.0 zs)
        ∙ ap (λ (w : List A). w ++ zs) p.1,
  )

  pub prefix_trans : (xs ys zs : List A) → IsPrefix xs ys → IsPrefix ys zs → IsPrefix xs zs
  prefix_trans xs ys zs p q = (
    p.0 ++ q.0,
    sym (append_assoc xs p.0 q.0)
        ∙ (ap (λ (w : List A). w ++ q.0) p.1 ∙ q.1),
  )

  -- of two beginnings of one list the shorter begins the longer
  pub prefix_shorter : (xs ys zs : List A) → IsPrefix xs zs → IsPrefix ys zs → length xs ≤ length ys
      → IsPrefix xs ys
  prefix_shorter [] ys zs p q le = (ys, refl)
  prefix_shorter (x ∷ xs) [] zs p q le = absurd (omega arith)
  prefix_shorter (x ∷ xs) (y ∷ ys) [] p q le = absurd (cc (p.1))
  prefix_shorter (x ∷ xs) (y ∷ ys) (z ∷ zs) p q le =
      let heads : x ≡ y = cc (p.1, q.1) in
      let rest = prefix_shorter xs ys zs (p.0, cc (p.1)) (q.0, cc (q.1)) (omega arith) in
      (rest.0, cc (heads, rest.1))

  -- a beginning as long as the whole is the whole
  pub prefix_whole : (xs ys : List A) → IsPrefix xs ys → length ys ≤ length xs → xs ≡ ys
  prefix_whole [] [] p le = refl
  prefix_whole [] (y ∷ ys) p le = absurd (omega arith)
  prefix_whole (x ∷ xs) [] p le = absurd (cc (p.1))
  prefix_whole (x ∷ xs) (y ∷ ys) p le =
      let rest = prefix_whole xs ys (p.0, cc (p.1)) (omega arith) in cc (p.1, rest)

  pub prefix_length : (xs ys : List A) → IsPrefix xs ys → length xs ≤ length ys
  prefix_length xs ys p = omega (arith, sym (ap length p.1) ∙ length-append xs p.0)

  -- a list between a list and itself is that list
  pub prefix_between : (xs ys zs : List A) → IsPrefix xs ys → IsPrefix ys zs → zs ≡ xs → ys ≡ xs
  prefix_between xs ys zs p q e = let a = prefix_length ys zs q in let b = ap length e in
      sym (prefix_whole xs ys p (omega arith))

  both_begin_at : (xs ys zs : List A) (b : Bool) → ltb (length xs) (length ys) ≡ b → IsPrefix xs zs
      → IsPrefix ys zs → IsPrefix xs (cond b ys xs) × IsPrefix ys (cond b ys xs)
      × IsPrefix (cond b ys xs) zs
  both_begin_at xs ys zs true e p q = let le : length xs ≤ length ys = grind (arith, nat_tests) in
      (prefix_shorter xs ys zs p q le, prefix_self ys, q)
  both_begin_at xs ys zs false e p q = let le : length ys ≤ length xs = grind (arith, nat_tests) in
      (prefix_self xs, prefix_shorter ys xs zs q p le, p)

  -- two beginnings of one list begin the longer of them, which begins that list
  pub both_begin : (xs ys zs : List A) → IsPrefix xs zs → IsPrefix ys zs
      → IsPrefix xs (longer xs ys) × IsPrefix ys (longer xs ys) × IsPrefix (longer xs ys) zs
  both_begin xs ys zs p q = both_begin_at xs ys zs (ltb (length xs) (length ys)) refl p q

  pub at_inside : (l : List A) (i : ℕ) (a : A) → get_elem? l i ≡ some a → i < length l
  at_inside [] i a e = absurd (some-ne-none a (sym e))
  at_inside (x ∷ xs) zero a e = omega arith
  at_inside (x ∷ xs) (suc i) a e = let h = at_inside xs i a e in omega arith

  pub at_get : (l : List A) (i : ℕ) (a : A) → get_elem? l i ≡ some a → get_or l i a ≡ a
  at_get [] i a e = refl
  at_get (x ∷ xs) zero a e = some-injective x a e
  at_get (x ∷ xs) (suc i) a e = at_get xs i a e

  -- a sum of which one term changes
  pub sum_set : (f : A → ℕ) (l : List A) (i : ℕ) (a b : A) → get_elem? l i ≡ some a
      → sum_by f (set l i b) + f a ≡ sum_by f l + f b
  sum_set f l i a b e = ap (λ (z : A). sum_by f (set l i b) + f z) (sym (at_get l i a e))
      ∙ sum_by-set f l i b a (at_inside l i a e)

  pub last_same : (xs : List A) (a b : A) → xs ++ a ∷ [] ≡ xs ++ b ∷ [] → a ≡ b
  last_same [] a b e = cc
  last_same (x ∷ xs) a b e = last_same xs a b (cc)

  -- a list of one element, with another in its place
  pub set_only : (l : List A) (a : A) → length l ≡ 1 → set l 0 a ≡ a ∷ []
  set_only [] a e = absurd (omega arith)
  set_only (x ∷ []) a e = refl
  set_only (x ∷ y ∷ l) a e = absurd (omega arith)

  pub before_last : (l : List A) (a : A) (j : ℕ) (b : A) → (j ≡ length l → ⊥)
      → get_elem? (l ++ a ∷ []) j ≡ some b → get_elem? l j ≡ some b
  before_last [] a zero b ne e = absurd (ne refl)
  before_last [] a (suc j) b ne e = absurd (some-ne-none b (sym e))
  before_last (x ∷ xs) a zero b ne e = e
  before_last (x ∷ xs) a (suc j) b ne e = before_last xs a j b (λ h. ne (omega arith)) e

-- How often a number stands in lists, and sums over the seats.
use Rattle.std.proofs.Common.{◌≡◌, ◌≢◌, ℕ, zero, suc, ◌+◌, ◌<◌, ◌≤◌, Bool, true, false, cond, ltb}
use Rattle.std.proofs.Common.{List, [], ◌∷◌, ◌++◌, length, get_or, filter, sum_by, refl, ap, sym, ◌∙◌}
use Rattle.std.proofs.Common.{arith, true≢false, eq-eqb, ne_eqb}
use mathlib.Core.Logic.{dite}
use native.Mathlib.Decide.{ℕ_discrete}
use Rattle.std.specs.List.{All}
use Rattle.std.proofs.lemmas.List.Sums.{sum_by-append, sum_by-cons}
use Rattle.std.proofs.lemmas.Bool.Decides.{nat_tests}
use mathlib.Core.Option.{some, some-injective, some-ne-none}
use lib.ListN.{get_elem?}
use Rattle.kq_jobs.specs.Claims.{one_if_same, times, once_below}

pub times_cons : (x y : ℕ) (ys : List ℕ) → times x (y ∷ ys) ≡ one_if_same x y + times x ys
times_cons x y ys = sum_by-cons (one_if_same x) y ys

pub times_append : (x : ℕ) (xs ys : List ℕ) → times x (xs ++ ys) ≡ times x xs + times x ys
times_append x xs ys = sum_by-append (one_if_same x) xs ys

one_itself : (x : ℕ) → one_if_same x x ≡ 1
one_itself x = ap (λ b. cond b 1 0) (eq-eqb x x refl)

none_else : (x y : ℕ) → y ≢ x → one_if_same x y ≡ 0
none_else x y ne = ap (λ b. cond b 1 0) (ne_eqb y x ne)

at_most : (b : Bool) → cond b 1 0 ≤ 1
at_most true = omega arith
at_most false = omega arith

pub once_at_most : (x n : ℕ) → once_below x n ≤ 1
once_at_most x n = at_most (ltb x n)

pub once_inside : (x n : ℕ) → x < n → once_below x n ≡ 1
once_inside x n lt = grind (arith, nat_tests)

pub once_outside : (x n : ℕ) → n ≤ x → once_below x n ≡ 0
once_outside x n le = grind (arith, nat_tests)

inside_at : (x n : ℕ) (b : Bool) → ltb x n ≡ b → 1 ≤ cond b 1 0 → x < n
inside_at x n true is le = grind (arith, nat_tests)
inside_at x n false is le = absurd (omega arith)

pub inside_once : (x n : ℕ) → 1 ≤ once_below x n → x < n
inside_once x n le = inside_at x n (ltb x n) refl le

-- the numbers below the next
pub once_next : (x n : ℕ) → once_below x (n + 1) ≡ once_below x n + times x (n ∷ [])
once_next x n = grind (arith, nat_tests)

-- a number that stands in the list
times_found : (l : List ℕ) (k d : ℕ) → k < length l → 1 ≤ times (get_or l k d) l
times_found [] k d lt = absurd (omega arith)
times_found (y ∷ ys) zero d lt =
    let one = one_itself y in let all = times_cons y y ys in omega arith
times_found (y ∷ ys) (suc k) d lt =
    let rest = times_found ys k d (omega arith) in
    let all = times_cons (get_or ys k d) y ys in omega arith

pub all_below : (l : List ℕ) (n : ℕ) → ((x : ℕ) → times x l ≤ once_below x n)
    → All (λ (m : ℕ). m < n) l
all_below l n h = λ k d lt.
    let found = times_found l k d lt in let most = h (get_or l k d) in
    inside_once (get_or l k d) n (omega arith)

-- the numbers that pass a test
module _ (p : ℕ → Bool) (x : ℕ) where
  kept_step : (y : ℕ) (ys : List ℕ) (b : Bool) → p y ≡ b → p x ≡ true
      → times x (filter p ys) ≡ times x ys
      → times x (cond b (y ∷ filter p ys) (filter p ys)) ≡ times x (y ∷ ys)
  kept_step y ys true is pass rest =
      let a = times_cons x y ys in let b = times_cons x y (filter p ys) in omega arith
  kept_step y ys false is pass rest = dite (ℕ_discrete y x)
      (λ e. absurd (true≢false (sym pass ∙ (ap p (sym e) ∙ is))))
      (λ ne.
      let none = none_else x y ne in
      let a = times_cons x y ys in omega arith)

  -- a number that passes stays as often as it was
  pub times_kept : (l : List ℕ) → p x ≡ true → times x (filter p l) ≡ times x l
  times_kept [] pass = refl
  times_kept (y ∷ ys) pass = kept_step y ys (p y) refl pass (times_kept ys pass)

  dropped_step : (y : ℕ) (ys : List ℕ) (b : Bool) → p y ≡ b → p x ≡ false
      → times x (filter p ys) ≡ 0 → times x (cond b (y ∷ filter p ys) (filter p ys)) ≡ 0
  dropped_step y ys false is fail rest = rest
  dropped_step y ys true is fail rest = dite (ℕ_discrete y x)
      (λ e. absurd (true≢false (sym is ∙ (ap p e ∙ fail))))
      (λ ne.
      let none = none_else x y ne in
      let a = times_cons x y (filter p ys) in omega arith)

  -- one that fails is gone
  pub times_dropped : (l : List ℕ) → p x ≡ false → times x (filter p l) ≡ 0
  times_dropped [] fail = refl
  times_dropped (y ∷ ys) fail = dropped_step y ys (p y) refl fail (times_dropped ys fail)

  times_fewer_at : (l : List ℕ) (b : Bool) → p x ≡ b → times x (filter p l) ≤ times x l
  times_fewer_at l true is = let e = times_kept l is in omega arith
  times_fewer_at l false is = let e = times_dropped l is in omega arith

  pub times_fewer : (l : List ℕ) → times x (filter p l) ≤ times x l
  times_fewer l = times_fewer_at l (p x) refl

-- sums over lists, of which one element is known
module _ {A : Type 0} (f : A → ℕ) where
  pub sum_has : (l : List A) (i : ℕ) (a : A) → get_elem? l i ≡ some a → f a ≤ sum_by f l
  sum_has [] i a e = absurd (some-ne-none a (sym e))
  sum_has (x ∷ xs) zero a e =
      let same = ap f (some-injective x a e) in let all = sum_by-cons f x xs in omega arith
  sum_has (x ∷ xs) (suc i) a e =
      let rest = sum_has xs i a e in let all = sum_by-cons f x xs in omega arith

module _ {A : Type 0} (f g : A → ℕ) where
  pub sum_most : (l : List A) → ((i : ℕ) (a : A) → get_elem? l i ≡ some a → f a ≤ g a)
      → sum_by f l ≤ sum_by g l
  sum_most [] h = omega arith
  sum_most (x ∷ xs) h =
      let one = h 0 x refl in let rest = sum_most xs (λ i a e. h (suc i) a e) in
      let a = sum_by-cons f x xs in let b = sum_by-cons g x xs in omega arith

  -- f is 0 where g is
  abbrev NoneWhereNone : List A → Type 0
  NoneWhereNone l = (i : ℕ) (a : A) → get_elem? l i ≡ some a → g a ≡ 0 → f a ≡ 0

  sum_none : (l : List A) → NoneWhereNone l → sum_by g l ≡ 0 → sum_by f l ≡ 0
  sum_none [] h none = refl
  sum_none (x ∷ xs) h none =
      let a = sum_by-cons f x xs in let b = sum_by-cons g x xs in
      let one = h 0 x refl (omega arith) in
      let rest = sum_none xs (λ i u e. h (suc i) u e) (omega arith) in omega arith

  -- where one element has all of g, it has all of f
  pub sum_whole : (l : List A) (i : ℕ) (a : A) → get_elem? l i ≡ some a → NoneWhereNone l
      → sum_by g l ≡ g a → sum_by f l ≡ f a
  sum_whole [] i a e h all = absurd (some-ne-none a (sym e))
  sum_whole (x ∷ xs) zero a e h all =
      let same = some-injective x a e in let sf = ap f same in let sg = ap g same in
      let s = sum_by-cons f x xs in let t = sum_by-cons g x xs in
      let rest = sum_none xs (λ i u q. h (suc i) u q) (omega arith) in omega arith
  sum_whole (x ∷ xs) (suc i) a e h all =
      let has = sum_has g xs i a e in
      let s = sum_by-cons f x xs in let t = sum_by-cons g x xs in
      let none = h 0 x refl (omega arith) in
      let rest = sum_whole xs i a e (λ j u q. h (suc j) u q) (omega arith) in omega arith

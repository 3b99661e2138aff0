-- Lists of pairs in rising order of their numbers: what a search finds, and what an edit there does.
use Rattle.std.proofs.Common.{◌≡◌, ℕ, zero, suc, ◌+◌, ◌<◌, ◌≤◌, ◌==◌, not, Bool, true, false, List, [], ◌∷◌, length, get_or, set, filter, if◌then◌else◌, Some, None, nat_lt, refl, sym, ap, subst, arith, ◌∙◌}
use Rattle.std.specs.List.{AllByRecursion, insert, remove}
use Rattle.std.proofs.lemmas.Bool.Decides.{nat_tests}
use Rattle.kq_process.specs.Shelf.{lookup, put, without, AreRising, IsPlace, IsGap}

-- both cases of a test have the property
pub if-both : {A : Type 0} (P : A → Type 0) (b : Bool) (x y : A) → (b ≡ true → P x) → (b ≡ false → P y)
    → P (if b then x else y)
if-both P true x y then_p else_p = then_p refl
if-both P false x y then_p else_p = else_p refl

pub less : (m n : ℕ) → nat_lt m n ≡ true → m < n
less m n h = grind (arith, nat_tests)

pub not-less : (m n : ℕ) → nat_lt m n ≡ false → n ≤ m
not-less m n h = grind (arith, nat_tests)

pub same : (m n : ℕ) → (m == n) ≡ true → m ≡ n
same m n h = grind (arith, nat_tests)

pub differs : (m n : ℕ) → n ≤ m → (n == m) ≡ false → n < m
differs m n le h = grind (arith, nat_tests)

pub differ : (m n : ℕ) → m < n → (m == n) ≡ false
differ m n lt = grind (arith, nat_tests)

pub differ-back : (m n : ℕ) → m < n → (n == m) ≡ false
differ-back m n lt = grind (arith, nat_tests)

pub less-true : (m n : ℕ) → m < n → nat_lt m n ≡ true
less-true m n lt = grind (arith, nat_tests)

pub less-false : (m n : ℕ) → n ≤ m → nat_lt m n ≡ false
less-false m n le = grind (arith, nat_tests)

pub same-true : (m n : ℕ) → m ≡ n → (m == n) ≡ true
same-true m n h = grind (arith, nat_tests)

module _ {X : Type 0} where
  -- all are above the number
  abbrev pub AreAbove : ℕ → List (ℕ × X) → Type 0
  AreAbove number es = AllByRecursion (λ f. number < f.0) es

  pub above-lower : (m n : ℕ) (es : List (ℕ × X)) → m ≤ n → AreAbove n es → AreAbove m es
  above-lower m n [] le above = tt
  above-lower m n (e ∷ es) le above = (omega (arith, above.0), above-lower m n es le above.1)

  above-at : (n : ℕ) (es : List (ℕ × X)) (i : ℕ) (d : ℕ × X) → AreAbove n es → i < length es → n < (get_or es i d).0
  above-at n [] i d above within = absurd (omega arith)
  above-at n (e ∷ es) zero d above within = above.0
  above-at n (e ∷ es) (suc i) d above within = above-at n es i d above.1 (omega arith)

  above-from : (n : ℕ) (es : List (ℕ × X)) → ((j : ℕ) (d : ℕ × X) → j < length es → n < (get_or es j d).0)
      → AreAbove n es
  above-from n [] all = tt
  above-from n (e ∷ es) all = (all 0 e (omega arith), above-from n es (λ j d within. all (suc j) d (omega arith)))

  -- ---- numbers that are not there

  pub lookup-above : (n : ℕ) (es : List (ℕ × X)) → AreAbove n es → lookup n es ≡ None
  lookup-above n [] above = refl
  lookup-above n (e ∷ es) above = rw (differ-back n e.0 above.0) (lookup-above n es above.1)

  pub without-above : (n : ℕ) (es : List (ℕ × X)) → AreAbove n es → without n es ≡ es
  without-above n [] above = refl
  without-above n (e ∷ es) above = rw (differ-back n e.0 above.0) (ap (λ t. e ∷ t) (without-above n es above.1))

  pub put-above : (n : ℕ) (x : X) (es : List (ℕ × X)) → AreAbove n es → put n x es ≡ (n, x) ∷ es
  put-above n x [] above = refl
  put-above n x (e ∷ es) above = rw (less-true n e.0 above.0) refl

  -- ---- a lower number before the others

  pub lookup-later : (n : ℕ) (e : ℕ × X) (es : List (ℕ × X)) → e.0 < n → lookup n (e ∷ es) ≡ lookup n es
  lookup-later n e es lt = rw (differ e.0 n lt) refl

  pub without-later : (n : ℕ) (e : ℕ × X) (es : List (ℕ × X)) → e.0 < n → without n (e ∷ es) ≡ e ∷ without n es
  without-later n e es lt = rw (differ e.0 n lt) refl

  pub put-later : (n : ℕ) (x : X) (e : ℕ × X) (es : List (ℕ × X)) → e.0 < n → put n x (e ∷ es) ≡ e ∷ put n x es
  put-later n x e es lt = let ge : e.0 ≤ n = omega arith in rw (less-false n e.0 ge, differ e.0 n lt) refl

  -- ---- a higher number first

  pub put-before : (n : ℕ) (x : X) (e : ℕ × X) (es : List (ℕ × X)) → n < e.0 → put n x (e ∷ es) ≡ (n, x) ∷ e ∷ es
  put-before n x e es lt = rw (less-true n e.0 lt) refl

  -- ---- the number first

  pub lookup-first : (n : ℕ) (e : ℕ × X) (es : List (ℕ × X)) → e.0 ≡ n → lookup n (e ∷ es) ≡ Some e.1
  lookup-first n e es is = rw (same-true e.0 n is) refl

  pub put-first : (n : ℕ) (x : X) (e : ℕ × X) (es : List (ℕ × X)) → e.0 ≡ n → put n x (e ∷ es) ≡ (n, x) ∷ es
  put-first n x e es is = let ge : e.0 ≤ n = omega arith in rw (less-false n e.0 ge, same-true e.0 n is) refl

  pub without-first : (n : ℕ) (e : ℕ × X) (es : List (ℕ × X)) → e.0 ≡ n → AreAbove e.0 es → without n (e ∷ es) ≡ es
  without-first n e es is above = rw (same-true e.0 n is) (without-above n es (subst (λ m. AreAbove m es) is above))

  -- ---- the order stays

  put-keeps-above : (m n : ℕ) (x : X) (es : List (ℕ × X)) → m < n → AreAbove m es → AreAbove m (put n x es)
  put-keeps-above m n x [] lt above = (lt, tt)
  put-keeps-above m n x (e ∷ es) lt above =
      if-both (AreAbove m) (nat_lt n e.0) _ _ (λ t. (lt, above)) (λ f.
      if-both (AreAbove m) (e.0 == n) _ _ (λ t. (lt, above.1)) (λ f. (above.0, put-keeps-above m n x es lt above.1)))

  filter-keeps-above : (q : ℕ × X → Bool) (m : ℕ) (es : List (ℕ × X)) → AreAbove m es → AreAbove m (filter q es)
  filter-keeps-above q m [] above = tt
  filter-keeps-above q m (e ∷ es) above =
      if-both (AreAbove m) (q e) _ _ (λ t. (above.0, filter-keeps-above q m es above.1))
      (λ f. filter-keeps-above q m es above.1)

  pub put-rises : (n : ℕ) (x : X) (es : List (ℕ × X)) → AreRising es → AreRising (put n x es)
  put-rises n x [] rising = (tt, tt)
  put-rises n x (e ∷ es) rising =
      if-both AreRising (nat_lt n e.0) _ _
      (λ t. let lt : n < e.0 = less n e.0 t in let le : n ≤ e.0 = omega arith in
      ((lt, above-lower n e.0 es le rising.0), rising))
      (λ f. let le : e.0 ≤ n = not-less n e.0 f in if-both AreRising (e.0 == n) _ _
      (λ t. (subst (λ m. AreAbove m es) (same e.0 n t) rising.0, rising.1))
      (λ f. (put-keeps-above e.0 n x es (differs n e.0 le f) rising.0, put-rises n x es rising.1)))

  pub filter-rises : (q : ℕ × X → Bool) (es : List (ℕ × X)) → AreRising es → AreRising (filter q es)
  filter-rises q [] rising = tt
  filter-rises q (e ∷ es) rising =
      if-both AreRising (q e) _ _ (λ t. (filter-keeps-above q e.0 es rising.0, filter-rises q es rising.1))
      (λ f. filter-rises q es rising.1)

  abbrev without-rises : (n : ℕ) (es : List (ℕ × X)) → AreRising es → AreRising (without n es)
  without-rises n es rising = filter-rises (λ e. not (e.0 == n)) es rising

  -- ---- at a place

  -- the pair at the index has the number
  abbrev pub IsOf : ℕ → List (ℕ × X) → ℕ → Type 0
  IsOf n es i = (d : ℕ × X) → (get_or es i d).0 ≡ n

  -- what is before the place is lower
  lower : (n : ℕ) (e : ℕ × X) (es : List (ℕ × X)) (i : ℕ) → AreAbove e.0 es → i < length es → IsOf n es i → e.0 < n
  lower n e es i above within is = omega (arith, above-at e.0 es i e above within, is e)

  place-found : (n : ℕ) (es : List (ℕ × X)) (i : ℕ) → AreRising es → i < length es → IsOf n es i → (d : ℕ × X)
      → lookup n es ≡ Some (get_or es i d).1
  place-found n [] i rising within is d = absurd (omega arith)
  place-found n (e ∷ es) zero rising within is d = lookup-first n e es (is e)
  place-found n (e ∷ es) (suc i) rising within is d =
      let inside : i < length es = omega arith in
      let is_rest : IsOf n es i = λ d. is d in
      lookup-later n e es (lower n e es i rising.0 inside is_rest) ∙ place-found n es i rising.1 inside is_rest d

  place-sets : (n : ℕ) (es : List (ℕ × X)) (i : ℕ) → AreRising es → i < length es → IsOf n es i → (x : X)
      → set es i (n, x) ≡ put n x es
  place-sets n [] i rising within is x = absurd (omega arith)
  place-sets n (e ∷ es) zero rising within is x = sym (put-first n x e es (is e))
  place-sets n (e ∷ es) (suc i) rising within is x =
      let inside : i < length es = omega arith in
      let is_rest : IsOf n es i = λ d. is d in
      ap (λ t. e ∷ t) (place-sets n es i rising.1 inside is_rest x)
      ∙ sym (put-later n x e es (lower n e es i rising.0 inside is_rest))

  place-removes : (n : ℕ) (es : List (ℕ × X)) (i : ℕ) → AreRising es → i < length es → IsOf n es i
      → remove es i ≡ without n es
  place-removes n [] i rising within is = absurd (omega arith)
  place-removes n (e ∷ es) zero rising within is = sym (without-first n e es (is e) rising.0)
  place-removes n (e ∷ es) (suc i) rising within is =
      let inside : i < length es = omega arith in
      let is_rest : IsOf n es i = λ d. is d in
      ap (λ t. e ∷ t) (place-removes n es i rising.1 inside is_rest)
      ∙ sym (without-later n e es (lower n e es i rising.0 inside is_rest))

  -- ---- at a gap

  abbrev pub AreLower : ℕ → List (ℕ × X) → ℕ → Type 0
  AreLower n es i = (j : ℕ) (d : ℕ × X) → j < i → (get_or es j d).0 < n

  abbrev pub AreHigher : ℕ → List (ℕ × X) → ℕ → Type 0
  AreHigher n es i = (j : ℕ) (d : ℕ × X) → i ≤ j → j < length es → n < (get_or es j d).0

  gap-absent : (n : ℕ) (es : List (ℕ × X)) (i : ℕ) → i ≤ length es → AreLower n es i → AreHigher n es i
      → lookup n es ≡ None
  gap-absent n es zero within lower higher = lookup-above n es
      (above-from n es (λ j d inside. higher j d (omega arith) inside))
  gap-absent n [] (suc i) within lower higher = refl
  gap-absent n (e ∷ es) (suc i) within lower higher =
      lookup-later n e es (lower 0 e (omega arith))
      ∙ gap-absent n es i (omega arith) (λ j d before. lower (suc j) d (omega arith))
      (λ j d after inside. higher (suc j) d (omega arith) (omega arith))

  gap-without : (n : ℕ) (es : List (ℕ × X)) (i : ℕ) → i ≤ length es → AreLower n es i → AreHigher n es i
      → without n es ≡ es
  gap-without n es zero within lower higher = without-above n es
      (above-from n es (λ j d inside. higher j d (omega arith) inside))
  gap-without n [] (suc i) within lower higher = refl
  gap-without n (e ∷ es) (suc i) within lower higher =
      without-later n e es (lower 0 e (omega arith))
      ∙ ap (λ t. e ∷ t) (gap-without n es i (omega arith) (λ j d before. lower (suc j) d (omega arith))
      (λ j d after inside. higher (suc j) d (omega arith) (omega arith)))

  gap-inserts : (n : ℕ) (es : List (ℕ × X)) (i : ℕ) → i ≤ length es → AreLower n es i → AreHigher n es i → (x : X)
      → insert es i (n, x) ≡ put n x es
  gap-inserts n es zero within lower higher x = sym
      (put-above n x es (above-from n es (λ j d inside. higher j d (omega arith) inside)))
  gap-inserts n [] (suc i) within lower higher x = absurd (omega arith)
  gap-inserts n (e ∷ es) (suc i) within lower higher x =
      ap (λ t. e ∷ t) (gap-inserts n es i (omega arith) (λ j d before. lower (suc j) d (omega arith))
      (λ j d after inside. higher (suc j) d (omega arith) (omega arith)) x)
      ∙ sym (put-later n x e es (lower 0 e (omega arith)))

  -- ---- a search

  rising-at : (es : List (ℕ × X)) → AreRising es → (i j : ℕ) (d : ℕ × X) → i ≤ j → j < length es
      → (get_or es i d).0 ≤ (get_or es j d).0
  rising-at [] rising i j d le within = absurd (omega arith)
  rising-at (e ∷ es) rising zero zero d le within = omega arith
  rising-at (e ∷ es) rising zero (suc j) d le within = omega (arith, above-at e.0 es j d rising.0)
  rising-at (e ∷ es) rising (suc i) zero d le within = absurd (omega arith)
  rising-at (e ∷ es) rising (suc i) (suc j) d le within = rising-at es rising.1 i j d (omega arith) (omega arith)

  -- the place of the pair that has the number
  pub placed : (n : ℕ) (es : List (ℕ × X)) (i : ℕ) → AreRising es → i < length es → IsOf n es i → IsPlace n es i
  placed n es i rising within is = record {
    within = within;
    number_there = is;
    found = place-found n es i rising within is;
    sets = place-sets n es i rising within is;
    removes = place-removes n es i rising within is;
    put_rises = λ x. put-rises n x es rising;
    without_rises = without-rises n es rising;
  }

  -- what is read within the list is the same, whatever would be read past its end
  pub read-any : (es : List (ℕ × X)) (i : ℕ) (d f : ℕ × X) → i < length es → get_or es i d ≡ get_or es i f
  read-any [] i d f within = absurd (omega arith)
  read-any (e ∷ es) zero d f within = refl
  read-any (e ∷ es) (suc i) d f within = read-any es i d f (omega arith)

  -- what is before the index is lower than the number, and what is from there on is not
  pub lower-after : (n : ℕ) (es : List (ℕ × X)) (i : ℕ) → AreRising es → i < length es
      → ((d : ℕ × X) → (get_or es i d).0 < n) → AreLower n es (i + 1)
  lower-after n es i rising within below j d before =
      let le : j ≤ i = omega arith in
      omega (arith, rising-at es rising j i d le within, below d)

  pub higher-from : (n : ℕ) (es : List (ℕ × X)) (i : ℕ) → AreRising es → i < length es
      → ((d : ℕ × X) → n < (get_or es i d).0) → AreHigher n es i
  higher-from n es i rising within above j d after inside =
      omega (arith, rising-at es rising i j d after inside, above d)

  -- the gap for the number
  pub gap : (n : ℕ) (es : List (ℕ × X)) (i : ℕ) → AreRising es → i ≤ length es → AreLower n es i → AreHigher n es i
      → IsGap n es i
  gap n es i rising within lower higher = record {
    within = within;
    absent = gap-absent n es i within lower higher;
    inserts = gap-inserts n es i within lower higher;
    put_rises = λ x. put-rises n x es rising;
    without_is = gap-without n es i within lower higher;
  }

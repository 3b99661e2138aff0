-- Items sorted by their first expirations up to a moment, and then those of the next moment in the
-- order of the list, are the items sorted up to the next moment.
use Rattle.std.proofs.Common.{◌≡◌, ℕ, suc, ◌<◌, ◌≤◌, Bool, true, false, cond, ◌&&◌, eqb, leb, List, [], ◌∷◌, ◌++◌, ◌⊎◌, inl, inr, refl, sym, ap, ◌∙◌, arith}
use Rattle.std.specs.List.{filter, AllByRecursion}
use Rattle.std.proofs.lemmas.Bool.{cond-true, cond-false, le-leb, lt-leb, leb-true, eqb-true, eq-eqb, ne_eqb, and_left, and_right, and_from, and_parts, cases_order, cases_Bool}
use Rattle.kq_model.specs.WalkedAtOnce.{placed, in_order}

-- ---- one item among those that are not later, and among those that are earlier

placed-append_before : {X : Type 0} (first : X → ℕ) (x : X) (ys zs : List X) → AllByRecursion (λ z. leb (first x) (first z) ≡ true) zs
    → placed first x (ys ++ zs) ≡ placed first x ys ++ zs
unfolding placed
placed-append_before first x [] [] all = refl
placed-append_before first x [] (z ∷ zs) all = cond-true _ _ _ all.0
placed-append_before first x (y ∷ ys) zs all = by_test (leb (first x) (first y)) (placed-append_before first x ys zs all)
  where
    by_test : (t : Bool) → placed first x (ys ++ zs) ≡ placed first x ys ++ zs
        → cond t (x ∷ y ∷ (ys ++ zs)) (y ∷ placed first x (ys ++ zs)) ≡ cond t (x ∷ y ∷ ys) (y ∷ placed first x ys) ++ zs
    by_test true earlier = refl
    by_test false earlier = ap (λ rest. y ∷ rest) earlier

placed-append_after : {X : Type 0} (first : X → ℕ) (x : X) (ys zs : List X) → AllByRecursion (λ y. leb (first x) (first y) ≡ false) ys
    → AllByRecursion (λ z. leb (first x) (first z) ≡ true) zs → placed first x (ys ++ zs) ≡ ys ++ (x ∷ zs)
unfolding placed
placed-append_after first x [] [] earlier later = refl
placed-append_after first x [] (z ∷ zs) earlier later = cond-true _ _ _ later.0
placed-append_after first x (y ∷ ys) zs earlier later =
    cond-false _ _ _ earlier.0 ∙ ap (λ rest. y ∷ rest) (placed-append_after first x ys zs earlier.1 later)

-- ---- what holds of each item that passes a test, also after sorting

All-filter : {X : Type 0} (P : X → Type 0) (test : X → Bool) → ((x : X) → test x ≡ true → P x) → (xs : List X) → AllByRecursion P (filter test xs)
All-filter P test holds [] = tt
All-filter P test holds (x ∷ xs) = by_test (test x) refl (All-filter P test holds xs)
  where
    by_test : (t : Bool) → test x ≡ t → AllByRecursion P (filter test xs) → AllByRecursion P (cond t (x ∷ filter test xs) (filter test xs))
    by_test true e rest = (holds x e, rest)
    by_test false e rest = rest

All-placed : {X : Type 0} (P : X → Type 0) (first : X → ℕ) (x : X) (ys : List X) → P x → AllByRecursion P ys → AllByRecursion P (placed first x ys)
unfolding placed
All-placed P first x [] holds all = (holds, tt)
All-placed P first x (y ∷ ys) holds all = by_test (leb (first x) (first y)) (All-placed P first x ys holds all.1)
  where
    by_test : (t : Bool) → AllByRecursion P (placed first x ys) → AllByRecursion P (cond t (x ∷ y ∷ ys) (y ∷ placed first x ys))
    by_test true rest = (holds, all)
    by_test false rest = (all.0, rest)

All-in_order : {X : Type 0} (P : X → Type 0) (first : X → ℕ) (xs : List X) → AllByRecursion P xs → AllByRecursion P (in_order first xs)
unfolding in_order
All-in_order P first [] all = tt
All-in_order P first (x ∷ xs) all = All-placed P first x (in_order first xs) all.0 (All-in_order P first xs all.1)

-- ---- one moment more

module _ {X : Type 0} (first : X → ℕ) (fresh : X → Bool) (last : ℕ) where
  -- among the items whose first expiration is not after `last`, at the moment after it, and not after that
  abbrev up_to_last : X → Bool
  up_to_last x = leb (first x) last && fresh x

  abbrev at_next : X → Bool
  at_next x = eqb (first x) (suc last) && fresh x

  abbrev up_to_next : X → Bool
  up_to_next x = leb (first x) (suc last) && fresh x

  next_is_later : (x : X) → first x ≤ suc last → (xs : List X) → AllByRecursion (λ z. leb (first x) (first z) ≡ true) (filter at_next xs)
  next_is_later x h xs = All-filter (λ z. leb (first x) (first z) ≡ true) at_next
      (λ z e. let at : first z ≡ suc last = eqb-true _ _ (and_parts _ _ e).0 in le-leb _ _ (omega arith)) xs

  last_is_earlier : (x : X) → first x ≡ suc last → (xs : List X) → AllByRecursion (λ y. leb (first x) (first y) ≡ false) (in_order first (filter up_to_last xs))
  last_is_earlier x h xs = All-in_order (λ y. leb (first x) (first y) ≡ false) first (filter up_to_last xs)
      (All-filter (λ y. leb (first x) (first y) ≡ false) up_to_last
      (λ y e. let below : first y ≤ last = leb-true _ _ (and_parts _ _ e).0 in lt-leb _ _ (omega arith)) xs)

  abbrev pub Steps : List X → Type 0
  Steps xs = in_order first (filter up_to_last xs) ++ filter at_next xs ≡ in_order first (filter up_to_next xs)

  step_stale : (x : X) (xs : List X) → fresh x ≡ false → Steps xs → Steps (x ∷ xs)
  step_stale x xs stale rest =
      let a : up_to_last x ≡ false = and_right _ _ stale in
      let b : at_next x ≡ false = and_right _ _ stale in
      let c : up_to_next x ≡ false = and_right _ _ stale in
      rw (a, b, c) rest

  step_earlier : (x : X) (xs : List X) → fresh x ≡ true → first x < suc last → Steps xs → Steps (x ∷ xs)
  unfolding in_order
  step_earlier x xs news h rest =
      let a : up_to_last x ≡ true = and_from _ _ (le-leb (first x) last (omega arith)) news in
      let b : at_next x ≡ false = and_left _ _ (ne_eqb (first x) (suc last) (λ e. omega arith)) in
      let c : up_to_next x ≡ true = and_from _ _ (le-leb (first x) (suc last) (omega arith)) news in
      rw (a, b, c) (sym (placed-append_before first x _ _ (next_is_later x (omega arith) xs)) ∙ ap (placed first x) rest)

  step_next : (x : X) (xs : List X) → fresh x ≡ true → first x ≡ suc last → Steps xs → Steps (x ∷ xs)
  unfolding in_order
  step_next x xs news h rest =
      let a : up_to_last x ≡ false = and_left _ _ (lt-leb (first x) last (omega arith)) in
      let b : at_next x ≡ true = and_from _ _ (eq-eqb (first x) (suc last) h) news in
      let c : up_to_next x ≡ true = and_from _ _ (le-leb (first x) (suc last) (omega arith)) news in
      rw (a, b, c) (sym (placed-append_after first x _ _ (last_is_earlier x h xs) (next_is_later x (omega arith) xs)) ∙ ap (placed first x) rest)

  step_later : (x : X) (xs : List X) → suc last < first x → Steps xs → Steps (x ∷ xs)
  step_later x xs h rest =
      let a : up_to_last x ≡ false = and_left _ _ (lt-leb (first x) last (omega arith)) in
      let b : at_next x ≡ false = and_left _ _ (ne_eqb (first x) (suc last) (λ e. omega arith)) in
      let c : up_to_next x ≡ false = and_left _ _ (lt-leb (first x) (suc last) (omega arith)) in
      rw (a, b, c) rest

  step : (x : X) (xs : List X) → Steps xs → Steps (x ∷ xs)
  step x xs rest = by_fresh (cases_Bool (fresh x)) (cases_order (first x) (suc last))
    where
      by_fresh : (fresh x ≡ true) ⊎ (fresh x ≡ false) → (first x ≡ suc last) ⊎ ((first x < suc last) ⊎ (suc last < first x)) → Steps (x ∷ xs)
      by_fresh (inr stale) _ = step_stale x xs stale rest
      by_fresh (inl news) (inl h) = step_next x xs news h rest
      by_fresh (inl news) (inr (inl h)) = step_earlier x xs news h rest
      by_fresh (inl news) (inr (inr h)) = step_later x xs h rest

  nothing : Steps []
  unfolding in_order
  nothing = refl

  pub sorted_step : (xs : List X) → Steps xs
  sorted_step [] = nothing
  sorted_step (x ∷ xs) = step x xs (sorted_step xs)

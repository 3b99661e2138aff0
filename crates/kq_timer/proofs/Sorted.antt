-- Items in the order of their first expirations: what holds of each, and that a test picks the same ones in the same order
-- before and after.
use Rattle.std.proofs.Common.{◌≡◌, ℕ, ◌<◌, ◌≤◌, Bool, true, false, cond, leb, List, [], ◌∷◌, ◌⊎◌, inl, inr, refl, sym, ap, ◌∙◌, arith}
use Rattle.std.specs.List.{filter, AllByRecursion}
use Rattle.std.proofs.lemmas.Bool.{cases_lt, le-leb, lt-leb, cond_both}
use Rattle.kq_model.specs.WalkedAtOnce.{placed, in_order}
use Rattle.kq_model.proofs.TimerWalkQueue.{All-like}

pub All-filter : {X : Type 0} (P : X → Type 0) (test : X → Bool) (xs : List X) → AllByRecursion P xs → AllByRecursion P (filter test xs)
All-filter P test [] all = tt
All-filter P test (x ∷ xs) all =
    cond_both (test x) (x ∷ filter test xs) (filter test xs) (AllByRecursion P) (λ _. (all.0, All-filter P test xs all.1)) (λ _. All-filter P test xs all.1)

-- what passes the test, with what is known of each
pub All-passing : {X : Type 0} (P Q : X → Type 0) (test : X → Bool) → ((x : X) → P x → test x ≡ true → Q x) → (xs : List X) → AllByRecursion P xs → AllByRecursion Q (filter test xs)
All-passing P Q test holds [] all = tt
All-passing P Q test holds (x ∷ xs) all =
    cond_both (test x) (x ∷ filter test xs) (filter test xs) (AllByRecursion Q) (λ e. (holds x all.0 e, All-passing P Q test holds xs all.1)) (λ _. All-passing P Q test holds xs all.1)

-- ---- two by two: what holds of any two keeps holding where it does not matter which comes first

abbrev pub AreTwoByTwo : {X : Type 0} → (X → X → Type 0) → List X → Type 0
AreTwoByTwo R [] = Unit {0}
AreTwoByTwo R (x ∷ xs) = AllByRecursion (R x) xs × AreTwoByTwo R xs

pub two-filter : {X : Type 0} (R : X → X → Type 0) (test : X → Bool) (xs : List X) → AreTwoByTwo R xs → AreTwoByTwo R (filter test xs)
two-filter R test [] all = tt
two-filter R test (x ∷ xs) all =
    cond_both (test x) (x ∷ filter test xs) (filter test xs) (AreTwoByTwo R) (λ _. (All-filter (R x) test xs all.0, two-filter R test xs all.1)) (λ _. two-filter R test xs all.1)

module _ {X : Type 0} (first : X → ℕ) where
  pub All-placed : (P : X → Type 0) (x : X) (ys : List X) → P x → AllByRecursion P ys → AllByRecursion P (placed first x ys)
  unfolding placed
  All-placed P x [] holds all = (holds, tt)
  All-placed P x (y ∷ ys) holds all =
      cond_both (leb (first x) (first y)) (x ∷ y ∷ ys) (y ∷ placed first x ys) (AllByRecursion P)
      (λ _. (holds, all)) (λ _. (all.0, All-placed P x ys holds all.1))

  pub All-in_order : (P : X → Type 0) (xs : List X) → AllByRecursion P xs → AllByRecursion P (in_order first xs)
  unfolding in_order
  All-in_order P [] all = tt
  All-in_order P (x ∷ xs) all = All-placed P x (in_order first xs) all.0 (All-in_order P xs all.1)

  two-placed : (R : X → X → Type 0) → ((a b : X) → R a b → R b a) → (x : X) (ys : List X) → AllByRecursion (R x) ys → AreTwoByTwo R ys → AreTwoByTwo R (placed first x ys)
  unfolding placed
  two-placed R turned x [] from_x all = (tt, tt)
  two-placed R turned x (y ∷ ys) from_x all =
      cond_both (leb (first x) (first y)) (x ∷ y ∷ ys) (y ∷ placed first x ys) (AreTwoByTwo R)
      (λ _. (from_x, all)) (λ _. (All-placed (R y) x ys (turned x y from_x.0) all.0, two-placed R turned x ys from_x.1 all.1))

  pub two-in_order : (R : X → X → Type 0) → ((a b : X) → R a b → R b a) → (xs : List X) → AreTwoByTwo R xs → AreTwoByTwo R (in_order first xs)
  unfolding in_order
  two-in_order R turned [] all = tt
  two-in_order R turned (x ∷ xs) all =
      two-placed R turned x (in_order first xs) (All-in_order (R x) xs all.0) (two-in_order R turned xs all.1)

  -- ---- sorted

  abbrev IsSorted : List X → Type 0
  IsSorted [] = Unit {0}
  IsSorted (y ∷ ys) = AllByRecursion (λ z. first y ≤ first z) ys × IsSorted ys

  later_too : (x y : X) (ys : List X) → first x ≤ first y → AllByRecursion (λ z. first y ≤ first z) ys → AllByRecursion (λ z. first x ≤ first z) ys
  later_too x y ys h all = All-like (λ z. first y ≤ first z) (λ z. first x ≤ first z) (λ z k. omega (arith, h, k)) ys all

  placed-sorted : (x : X) (ys : List X) → IsSorted ys → IsSorted (placed first x ys)
  unfolding placed
  placed-sorted x [] sorted = (tt, tt)
  placed-sorted x (y ∷ ys) sorted = by_place (placed-sorted x ys sorted.1) (cases_lt (first y) (first x))
    where
      by_place : IsSorted (placed first x ys) → (first y < first x) ⊎ (first x ≤ first y) → IsSorted (cond (leb (first x) (first y)) (x ∷ y ∷ ys) (y ∷ placed first x ys))
      by_place more (inl h) =
          rw (lt-leb (first x) (first y) h) (All-placed (λ z. first y ≤ first z) x ys (omega (arith, h)) sorted.0, more)
      by_place more (inr h) =
          rw (le-leb (first x) (first y) h) ((h, later_too x y ys h sorted.0), sorted)

  in_order-sorted : (xs : List X) → IsSorted (in_order first xs)
  unfolding in_order
  in_order-sorted [] = tt
  in_order-sorted (x ∷ xs) = placed-sorted x (in_order first xs) (in_order-sorted xs)

  placed-front : (x : X) (ys : List X) → AllByRecursion (λ z. first x ≤ first z) ys → placed first x ys ≡ x ∷ ys
  unfolding placed
  placed-front x [] all = refl
  placed-front x (y ∷ ys) all = ap (λ b. cond b (x ∷ y ∷ ys) (y ∷ placed first x ys)) (le-leb (first x) (first y) all.0)

  placed-behind : (x y : X) (ys : List X) → first y < first x → placed first x (y ∷ ys) ≡ y ∷ placed first x ys
  unfolding placed
  placed-behind x y ys h = ap (λ b. cond b (x ∷ y ∷ ys) (y ∷ placed first x ys)) (lt-leb (first x) (first y) h)

  -- ---- a test before and after

  abbrev kept : Bool → X → List X → List X
  kept b x rest = cond b (x ∷ rest) rest

  filter-placed : (test : X → Bool) (x : X) (ys : List X) → IsSorted ys
      → filter test (placed first x ys) ≡ cond (test x) (placed first x (filter test ys)) (filter test ys)
  unfolding placed
  filter-placed test x [] sorted = refl
  filter-placed test x (y ∷ ys) sorted = by_place (filter-placed test x ys sorted.1) (cases_lt (first y) (first x))
    where
      split : (a b : Bool) → first y < first x → filter test (placed first x ys) ≡ cond a (placed first x (filter test ys)) (filter test ys)
          → kept b y (filter test (placed first x ys)) ≡ cond a (placed first x (kept b y (filter test ys))) (kept b y (filter test ys))
      split true true h e = ap (λ rest. y ∷ rest) e ∙ sym (placed-behind x y (filter test ys) h)
      split true false h e = e
      split false true h e = ap (λ rest. y ∷ rest) e
      split false false h e = e

      front : first x ≤ first y → filter test (x ∷ y ∷ ys) ≡ cond (test x) (placed first x (filter test (y ∷ ys))) (filter test (y ∷ ys))
      front h =
          ap (λ rest. cond (test x) rest (filter test (y ∷ ys)))
          (sym (placed-front x (filter test (y ∷ ys)) (All-filter (λ z. first x ≤ first z) test (y ∷ ys) (h, later_too x y ys h sorted.0))))

      by_place : filter test (placed first x ys) ≡ cond (test x) (placed first x (filter test ys)) (filter test ys) → (first y < first x) ⊎ (first x ≤ first y)
          → filter test (placed first x (y ∷ ys)) ≡ cond (test x) (placed first x (filter test (y ∷ ys))) (filter test (y ∷ ys))
      by_place more (inl h) = ap (filter test) (placed-behind x y ys h) ∙ split (test x) (test y) h more
      by_place more (inr h) = ap (λ b. filter test (cond b (x ∷ y ∷ ys) (y ∷ placed first x ys))) (le-leb (first x) (first y) h) ∙ front h

  pub filter-in_order : (test : X → Bool) (xs : List X) → filter test (in_order first xs) ≡ in_order first (filter test xs)
  unfolding in_order
  filter-in_order test [] = refl
  filter-in_order test (x ∷ xs) =
      filter-placed test x (in_order first xs) (in_order-sorted xs)
      ∙ split (test x) (filter-in_order test xs)
    where
      split : (b : Bool) → filter test (in_order first xs) ≡ in_order first (filter test xs)
          → cond b (placed first x (filter test (in_order first xs))) (filter test (in_order first xs)) ≡ in_order first (kept b x (filter test xs))
      split true e = ap (placed first x) e
      split false e = e

-- What a filter keeps, by tests that agree on the elements or that imply each other.
use Rattle.std.proofs.Common.{◌≡◌, Bool, true, false, cond, ◌||◌, List, [], ◌∷◌, ◌++◌, filter, map, refl, sym, subst, ap, ap₂, ◌∙◌}
use Rattle.std.proofs.lemmas.Bool.{both_ways, false_from_ne_true}
use Rattle.std.proofs.lemmas.List.Elements.{All-nil, All-cons, All-head, All-tail}
use Rattle.std.proofs.lemmas.List.Folds.{list_any_at}
use Rattle.std.specs.List.{All, Contains, list_any}
use Rattle.kq_model.proofs.KnoteLaws.{by_test}

module _ {A : Type 0} (p q : A → Bool) where
  pub filter-same : (xs : List A) → All (λ x. p x ≡ q x) xs → filter p xs ≡ filter q xs
  filter-same [] all = refl
  filter-same (x ∷ xs) all =
      ap₂ (λ b rest. cond b (x ∷ rest) rest) (All-head (λ x. p x ≡ q x) x xs all) (filter-same xs (All-tail (λ x. p x ≡ q x) x xs all))

  unless : ((x : A) → p x ≡ true → q x ≡ true) → (x : A) → q x ≡ false → p x ≡ false
  unless like x fails = false_from_ne_true (p x) (λ holds. both_ways (q x) fails (like x holds))

  -- the weaker test before the stronger one makes no difference
  pub filter-weaker : ((x : A) → p x ≡ true → q x ≡ true) → (xs : List A) → filter p (filter q xs) ≡ filter p xs
  filter-weaker like [] = refl
  filter-weaker like (x ∷ xs) =
      by_test (λ b. filter p (cond b (x ∷ filter q xs) (filter q xs)) ≡ cond (p x) (x ∷ filter p xs) (filter p xs)) (q x)
      (λ _. ap (λ rest. cond (p x) (x ∷ rest) rest) (filter-weaker like xs))
      (λ fails. filter-weaker like xs ∙ ap (λ b. cond b (x ∷ filter p xs) (filter p xs)) (sym (unless like x fails)))

  pub any-weaker : ((x : A) → p x ≡ true → q x ≡ true) → (xs : List A) → list_any p (filter q xs) ≡ list_any p xs
  any-weaker like [] = refl
  any-weaker like (x ∷ xs) =
      by_test (λ b. list_any p (cond b (x ∷ filter q xs) (filter q xs)) ≡ (p x || list_any p xs)) (q x)
      (λ _. ap (λ rest. p x || rest) (any-weaker like xs))
      (λ fails. any-weaker like xs ∙ ap (λ b. b || list_any p xs) (sym (unless like x fails)))

module _ {A : Type 0} (p : A → Bool) where
  pub filter-all : (xs : List A) → All (λ x. p x ≡ true) xs → filter p xs ≡ xs
  filter-all [] all = refl
  filter-all (x ∷ xs) all =
      ap₂ (λ b rest. cond b (x ∷ rest) rest) (All-head (λ x. p x ≡ true) x xs all) (filter-all xs (All-tail (λ x. p x ≡ true) x xs all))

  pub any_contained : (xs : List A) (x : A) → Contains xs x → p x ≡ true → list_any p xs ≡ true
  any_contained xs x there holds = list_any_at p xs there.0 x there.1 (subst (λ y. p y ≡ true) (sym there.2) holds)

  pub all-where : ((x : A) → p x ≡ true) → (xs : List A) → All (λ x. p x ≡ true) xs
  all-where holds [] = All-nil (λ x. p x ≡ true)
  all-where holds (x ∷ xs) = All-cons (λ x. p x ≡ true) x xs (holds x) (all-where holds xs)

pub All-unmap : {A B : Type 0} (P : B → Type 0) (f : A → B) (xs : List A) → All P (map f xs) → All (λ x. P (f x)) xs
All-unmap P f [] all = All-nil (λ x. P (f x))
All-unmap P f (x ∷ xs) all =
    All-cons (λ x. P (f x)) x xs (All-head P (f x) (map f xs) all) (All-unmap P f xs (All-tail P (f x) (map f xs) all))

module _ {A : Type 0} (P : A → Type 0) where
  pub All-left : (xs ys : List A) → All P (xs ++ ys) → All P xs
  All-left [] ys all = All-nil P
  All-left (x ∷ xs) ys all = All-cons P x xs (All-head P x (xs ++ ys) all) (All-left xs ys (All-tail P x (xs ++ ys) all))

  pub All-right : (xs ys : List A) → All P (xs ++ ys) → All P ys
  All-right [] ys all = all
  All-right (x ∷ xs) ys all = All-right xs ys (All-tail P x (xs ++ ys) all)

pub All-both : {A : Type 0} (P Q R : A → Type 0) → ((x : A) → P x → Q x → R x) → (xs : List A) → All P xs → All Q xs → All R xs
All-both P Q R both [] ps qs = All-nil R
All-both P Q R both (x ∷ xs) ps qs =
    All-cons R x xs (both x (All-head P x xs ps) (All-head Q x xs qs)) (All-both P Q R both xs (All-tail P x xs ps) (All-tail Q x xs qs))

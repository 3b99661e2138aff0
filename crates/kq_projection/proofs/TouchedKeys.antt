-- Lists of numbers and of targets: what stands in them, and in parts of them.
use Rattle.std.proofs.Common.{◌≡◌, ◌∙◌, ℕ, ◌&&◌, ◌||◌, Bool, true, false, cond, eqb, eq-eqb, List, [], ◌∷◌, ◌++◌, map, Option, None, Some, refl, sym, ap, ap₂}
use Rattle.std.specs.Prelude.{All}
use Rattle.std.specs.List.{flat_map, list_any}
use Rattle.std.proofs.lemmas.Bool.{and_parts, eqb-true, false_from_ne_true, true≢false}
use Rattle.std.proofs.lemmas.List.Elements.{All-nil, All-cons, All-head, All-tail}
use Rattle.std.proofs.lemmas.List.Folds.{list_any-append}
use Rattle.kq_model.specs.declared.object.Named.TheVariants as named
use Rattle.kq_model.specs.declared.object.Target.{Target}
use Rattle.kq_model.specs.declared.object.Target.TheVariants as target
use Rattle.kq_model.specs.Close.{Pair, has_pair}
use Rattle.kq_model.specs.Descriptors.{Descriptor, is_before, with_descriptor, with_descriptors}
use Rattle.kq_model.specs.ProcessPlans.{descriptors_of}
use Rattle.kq_model.specs.Targets.{target_eq}
use Rattle.kq_model.specs.World.{with_kqueue}
use Rattle.kq_model.proofs.KnoteLaws.{by_test}
use Rattle.kq_projection.specs.RecordSubjects.{process_targets, file_targets}
use Rattle.kq_projection.specs.Touched.{has_number, has_target, keys_of}

pub or_true : (b : Bool) → (b || true) ≡ true
or_true true = refl
or_true false = refl

or_swapped : (a b c : Bool) → (a || (b || c)) ≡ (b || (a || c))
or_swapped true true c = refl
or_swapped true false c = refl
or_swapped false b c = refl

module _ {X : Type 0} (test : X → Bool) where
  pub in_left : (xs ys : List X) → list_any test xs ≡ true → list_any test (xs ++ ys) ≡ true
  in_left xs ys there = list_any-append test xs ys ∙ ap (λ b. b || list_any test ys) there

  pub in_right : (xs ys : List X) → list_any test ys ≡ true → list_any test (xs ++ ys) ≡ true
  in_right xs ys there = list_any-append test xs ys ∙ ap (λ b. list_any test xs || b) there ∙ or_true (list_any test xs)

  -- nothing that has the property passes the test
  pub none-passes : (P : X → Type 0) (xs : List X) → All P xs → ((x : X) → P x → test x ≡ true → ⊥) → list_any test xs ≡ false
  none-passes P [] all never = refl
  none-passes P (x ∷ xs) all never =
      ap₂ (λ a b. a || b) (false_from_ne_true (test x) (never x (All-head P x xs all))) (none-passes P xs (All-tail P x xs all) never)

-- ---- tables

module _ (test : Descriptor → Bool) where
  any-with : (d : Descriptor) (es : List Descriptor) → list_any test (with_descriptor d es) ≡ (test d || list_any test es)
  unfolding with_descriptor
  any-with d [] = refl
  any-with d (e ∷ es) =
      by_test (λ b. list_any test (cond b (d ∷ e ∷ es) (e ∷ with_descriptor d es)) ≡ (test d || (test e || list_any test es))) (is_before d e)
      (λ _. refl) (λ _. ap (λ b. test e || b) (any-with d es) ∙ or_swapped (test e) (test d) (list_any test es))

  still : (ds es : List Descriptor) → list_any test es ≡ true → list_any test (with_descriptors ds es) ≡ true
  unfolding with_descriptors
  still [] es there = there
  still (d ∷ ds) es there = still ds (with_descriptor d es) (any-with d es ∙ ap (λ b. test d || b) there ∙ or_true (test d))

  opened-there : (ds es : List Descriptor) → list_any test ds ≡ true → list_any test (with_descriptors ds es) ≡ true
  unfolding with_descriptors
  opened-there [] es there = absurd (true≢false (sym there))
  opened-there (d ∷ ds) es there =
      by_test (λ b. test d ≡ b → (b || list_any test ds) ≡ true → list_any test (with_descriptors ds (with_descriptor d es)) ≡ true) (test d)
      (λ _ is _. still ds (with_descriptor d es) (any-with d es ∙ ap (λ b. b || list_any test es) is))
      (λ _ _ later. opened-there ds (with_descriptor d es) later) refl there

  -- what a record opens stands in its table
  pub table-has : (place : ℕ) (born : Option Pair) (ds es : List Descriptor) → list_any test ds ≡ true → list_any test (with_kqueue place born (with_descriptors ds es)) ≡ true
  unfolding with_kqueue
  table-has place None ds es there = opened-there ds es there
  table-has place (Some p) ds es there =
      let d : Descriptor = record { pid = p.pid; number = p.number; named = named.Kqueue place } in
      any-with d (with_descriptors ds es) ∙ ap (λ b. test d || b) (opened-there ds es there) ∙ or_true (test d)

-- the numbers of one process
pub open-has : (pid number : ℕ) (es : List Descriptor)
    → has_number pid number (keys_of (descriptors_of pid es)) ≡ list_any (λ (d : Descriptor). eqb d.pid pid && eqb d.number number) es
open-has pid number [] = refl
open-has pid number (d ∷ es) =
    by_test (λ b. eqb d.pid pid ≡ b → has_number pid number (keys_of (cond b (d ∷ descriptors_of pid es) (descriptors_of pid es)))
    ≡ ((b && eqb d.number number) || list_any (λ (x : Descriptor). eqb x.pid pid && eqb x.number number) es)) (eqb d.pid pid)
    (λ _ is. ap₂ (λ a b. (a && eqb d.number number) || b) is (open-has pid number es)) (λ _ _. open-has pid number es) refl

-- ---- pairs

abbrev pub to_pair : ℕ × ℕ → Pair
to_pair p = record { pid = p.0; number = p.1 }

pub pairs-have : (pid number : ℕ) (ps : List (ℕ × ℕ)) → has_pair pid number (map to_pair ps) ≡ has_number pid number ps
pairs-have pid number [] = refl
pairs-have pid number (p ∷ ps) = ap (λ b. (eqb p.0 pid && eqb p.1 number) || b) (pairs-have pid number ps)

-- ---- targets

pub target-itself : (t : Target) → target_eq t t ≡ true
unfolding target_eq
target-itself (target.Socket n) = eq-eqb n n refl
target-itself (target.Pipe n) = eq-eqb n n refl
target-itself (target.Open n) = eq-eqb n n refl
target-itself (target.File n) = eq-eqb n n refl
target-itself (target.Process n) = eq-eqb n n refl
target-itself (target.Signal p n) = ap₂ (λ a b. a && b) (eq-eqb p p refl) (eq-eqb n n refl)
target-itself target.Own = refl

-- a part of some targets
pub all-have : (ts xs : List Target) → ((t : Target) → has_target t xs ≡ true → has_target t ts ≡ true) → All (λ t. has_target t ts ≡ true) xs
all-have ts [] part = All-nil _
all-have ts (x ∷ xs) part =
    All-cons (λ t. has_target t ts ≡ true) x xs (part x (ap (λ b. b || has_target x xs) (target-itself x)))
    (all-have ts xs (λ t there. part t (ap (λ b. target_eq x t || b) there ∙ or_true (target_eq x t))))

-- what stands for a number of these is among what stands for them all
pub named-have : (of : ℕ × ℕ → List Target) (pid number : ℕ) (t : Target) (ps : List (ℕ × ℕ)) → has_number pid number ps ≡ true
    → has_target t (of (pid, number)) ≡ true → has_target t (flat_map of ps) ≡ true
named-have of pid number t [] there names = absurd (true≢false (sym there))
named-have of pid number t (p ∷ ps) there names =
    by_test (λ b. (eqb p.0 pid && eqb p.1 number) ≡ b → (b || has_number pid number ps) ≡ true → has_target t (flat_map of (p ∷ ps)) ≡ true) (eqb p.0 pid && eqb p.1 number)
    (λ _ is _. in_left (λ x. target_eq x t) (of p) (flat_map of ps) (same p is))
    (λ _ _ later. in_right (λ x. target_eq x t) (of p) (flat_map of ps) (named-have of pid number t ps later names)) refl there
  where
    same : (p : ℕ × ℕ) → (eqb p.0 pid && eqb p.1 number) ≡ true → has_target t (of p) ≡ true
    same (a, b) is =
        let both = and_parts (eqb a pid) (eqb b number) is in
        ap₂ (λ x y. has_target t (of (x, y))) (eqb-true a pid both.0) (eqb-true b number both.1) ∙ names

-- which process a record speaks of
pub process-spoken : (x y : Option ℕ) (pid : ℕ) → has_target (target.Process pid) (process_targets x ++ file_targets y) ≡ true → x ≡ Some pid
unfolding target_eq
process-spoken None None pid there = absurd (true≢false (sym there))
process-spoken None (Some n) pid there = absurd (true≢false (sym there))
process-spoken (Some q) None pid there = ap Some (eqb-true q pid (or_nothing (eqb q pid) there))
  where
    or_nothing : (b : Bool) → (b || false) ≡ true → b ≡ true
    or_nothing true is = refl
    or_nothing false is = is
process-spoken (Some q) (Some n) pid there = ap Some (eqb-true q pid (or_none (eqb q pid) there))
  where
    or_none : (b : Bool) → (b || (false || false)) ≡ true → b ≡ true
    or_none true is = refl
    or_none false is = is

-- The targets of what numbers named before a record are among those that were added one number after the other.
use Rattle.std.proofs.Common.{◌≡◌, ◌∙◌, ◌==◌, ◌||◌, ◌++◌, ◌∷◌, [], ℕ, ◌&&◌, Bool, true, false, eq-eqb, List, Option, refl, sym, ap, ap₂, subst}
use Rattle.std.specs.List.{flat_map}
use Rattle.std.proofs.lemmas.Bool.{and_parts, eqb-true, false≢true}
use Rattle.std.proofs.lemmas.List.{append-nil}
use Rattle.std.proofs.lemmas.List.Folds.{list_any-append}
use Rattle.std.proofs.lemmas.Grind.{flat_map-append}
use Rattle.kq_model.specs.declared.object.Named.{Named}
use Rattle.kq_model.specs.declared.object.Target.{Target}
use Rattle.kq_model.specs.Targets.{target_eq}
use Rattle.kq_model.specs.Views.{Views}
use Rattle.kq_model.proofs.KnoteLaws.{by_test}
use Rattle.kq_projection.specs.Noted.{IsNextWorld}
use Rattle.kq_projection.specs.Keys.{pair_eq}
use Rattle.kq_projection.specs.Touched.{has_number, has_target, AreAmong}

-- ---- tests of two parts

pub or_left : (a b : Bool) → a ≡ true → (a || b) ≡ true
or_left true b is = refl
or_left false b is = absurd (false≢true is)

pub or_right : (a b : Bool) → b ≡ true → (a || b) ≡ true
or_right true b is = refl
or_right false b is = is

pub or_cases : {P : Type 0} (a b : Bool) → (a || b) ≡ true → (a ≡ true → P) → (b ≡ true → P) → P
or_cases true b is left right = left refl
or_cases false b is left right = right is

pub in-either : {P : Type 0} (xs ys : List Target) (t : Target) → has_target t (xs ++ ys) ≡ true → (has_target t xs ≡ true → P) → (has_target t ys ≡ true → P) → P
in-either xs ys t is left right =
    or_cases (has_target t xs) (has_target t ys) (sym (list_any-append (λ x. target_eq x t) xs ys) ∙ is) left right

pub in-first : (xs ys : List Target) (t : Target) → has_target t xs ≡ true → has_target t (xs ++ ys) ≡ true
in-first xs ys t is = list_any-append (λ x. target_eq x t) xs ys ∙ or_left (has_target t xs) (has_target t ys) is

pub in-second : (xs ys : List Target) (t : Target) → has_target t ys ≡ true → has_target t (xs ++ ys) ≡ true
in-second xs ys t is = list_any-append (λ x. target_eq x t) xs ys ∙ or_right (has_target t xs) (has_target t ys) is

-- ---- number by number

module _ (left : Option Named → List Target) (before : ℕ × ℕ → Option Named) where
  abbrev around : ℕ × ℕ → List Target
  around p = left (before p)

  same_pair : (x p : ℕ × ℕ) → pair_eq x p ≡ true → x ≡ p
  same_pair x p is =
      let both = and_parts (x.0 == p.0) (x.1 == p.1) is in
      let pair : ℕ → ℕ → ℕ × ℕ = λ a b. (a, b) in
      ap₂ pair (eqb-true x.0 p.0 both.0) (eqb-true x.1 p.1 both.1)

  around-there : (ns : List (ℕ × ℕ)) (p : ℕ × ℕ) (t : Target) → has_number p.0 p.1 ns ≡ true → has_target t (around p) ≡ true
      → has_target t (flat_map around ns) ≡ true
  around-there [] p t found there = absurd (false≢true found)
  around-there (x ∷ ns) p t found there =
      or_cases (pair_eq x p) (has_number p.0 p.1 ns) found
      (λ here. in-first (around x) (flat_map around ns) t (subst (λ y. has_target t (around y) ≡ true) (sym (same_pair x p here)) there))
      (λ later. in-second (around x) (flat_map around ns) t (around-there ns p t later there))

  pub one-number-more : (ns : List (ℕ × ℕ)) (p : ℕ × ℕ) (had : Option Named) (init cur new : List Target)
      → AreAmong (flat_map around ns ++ init) cur → AreAmong (left had ++ cur) new
      → (has_number p.0 p.1 ns ≡ false → had ≡ before p) → AreAmong (flat_map around (ns ++ p ∷ []) ++ init) new
  one-number-more ns p had init cur new so_far added kept = λ t is.
      let from_cur : has_target t cur ≡ true → has_target t new ≡ true = λ there. added t (in-second (left had) cur t there) in
      in-either (flat_map around (ns ++ p ∷ [])) init t is
      (λ in_all. in-either (flat_map around ns) (around p) t
      (ap (has_target t) (sym (flat_map-append around ns (p ∷ []) ∙ ap (λ xs. flat_map around ns ++ xs) (append-nil (around p)))) ∙ in_all)
      (λ earlier. from_cur (so_far t (in-first (flat_map around ns) init t earlier)))
      (λ in_p. by_test (λ b. has_number p.0 p.1 ns ≡ b → has_target t new ≡ true) (has_number p.0 p.1 ns)
      (λ _ known. from_cur (so_far t (in-first (flat_map around ns) init t (around-there ns p t known in_p))))
      (λ _ fresh. added t (in-first (left had) cur t (subst (λ n. has_target t (left n) ≡ true) (sym (kept fresh)) in_p)))
      refl))
      (λ in_init. from_cur (so_far t (in-second (flat_map around ns) init t in_init)))

-- of more numbers, and behind them more targets
pub all-touched : (of : ℕ × ℕ → List Target) (some more : List (ℕ × ℕ)) (others targets : List Target) → AreAmong others targets
    → AreAmong (flat_map of some ++ others) (flat_map of (some ++ more) ++ targets)
all-touched of some more others targets among = λ t is.
    in-either (flat_map of some) others t is
    (λ left. in-first (flat_map of (some ++ more)) targets t
    (ap (has_target t) (flat_map-append of some more) ∙ in-first (flat_map of some) (flat_map of more) t left))
    (λ other. in-second (flat_map of (some ++ more)) targets t (among t other))

-- ---- the next world

-- it may differ in more targets
pub next-world-among : (place : ℕ) (before after : Views) (numbers : List (ℕ × ℕ)) (targets more : List Target) (worlds next : ℕ → Views) → AreAmong targets more
    → IsNextWorld place before after numbers targets worlds next → IsNextWorld place before after numbers more worlds next
next-world-among place before after numbers targets more worlds next among is = record {
  earlier = is.earlier;
  stood = is.stood;
  same_numbers = is.same_numbers;
  same_views = λ t absent.
      is.same_views t
      (by_test (λ b. has_target t targets ≡ b → has_target t targets ≡ false) (has_target t targets)
      (λ _ there. absurd (false≢true (sym absent ∙ among t there))) (λ _ isnt. isnt) refl);
}

-- what stands for each of these numbers is the same
pub flat-same : (f g : ℕ × ℕ → List Target) (ps : List (ℕ × ℕ)) → ((pid number : ℕ) → has_number pid number ps ≡ true → f (pid, number) ≡ g (pid, number))
    → flat_map f ps ≡ flat_map g ps
flat-same f g [] same = refl
flat-same f g (p ∷ ps) same =
    ap₂ (λ xs ys. xs ++ ys) (same p.0 p.1 (or_left (pair_eq p p) (has_number p.0 p.1 ps) (itself p.0 p.1)))
    (flat-same f g ps (λ pid number there. same pid number (or_right (pair_eq p (pid, number)) (has_number pid number ps) there)))
  where
    itself : (a b : ℕ) → pair_eq (a, b) (a, b) ≡ true
    itself a b = ap₂ (λ x y. x && y) (eq-eqb a a refl) (eq-eqb b b refl)

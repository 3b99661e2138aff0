-- The sources of what a kqueue's changes name are just those of what concerns it.
use Rattle.std.proofs.Common.{◌≡◌, ◌==◌, ◌&&◌, ◌||◌, ℕ, Bool, true, false, eqb, List, [], ◌∷◌, ◌++◌, Option, Some, None, refl, sym, ap, ap₂, ◌∙◌, arith}
use Rattle.std.specs.List.{flat_map, list_any}
use Rattle.std.proofs.lemmas.Bool.Decides.{nat_tests}
use Rattle.std.proofs.lemmas.List.Folds.{list_any-append}
use Rattle.kq_model.specs.declared.object.Target.{Target}
use Rattle.kq_model.specs.Items as model
use Rattle.kq_model.specs.Knote.{watches_number, is_timer}
use Rattle.kq_model.specs.References.{Reference, named_by, names_number}
use Rattle.kq_model.specs.Targets.{target_eq, is_target}
use Rattle.kq_projection.specs.declared.history.item.Source.{Source}
use Rattle.kq_projection.specs.declared.history.item.Source.TheVariants as source
use Rattle.kq_projection.specs.Items.{bare_what, has_source, source_eq, source_of}
use Rattle.kq_projection.specs.Sources.{target_sources, number_sources, clock_sources, reference_sources, named_sources}

-- ---- when two sources are the same

abbrev pub same_source : Source → Source → Bool
same_source (source.Number a b) (source.Number c d) = (a == c) && (b == d)
same_source (source.Of a) (source.Of b) = target_eq b a
same_source source.Clock source.Clock = true
same_source (source.Kqueue a) (source.Kqueue b) = b == a
same_source _ _ = false

module _ (eq_is : (a b : Source) → source_eq a b ≡ same_source a b) where
  abbrev has : List Source → Source → Bool
  has ss s = list_any (same_source s) ss

  has-is : (ss : List Source) (s : Source) → has_source ss s ≡ has ss s
  has-is [] s = refl
  has-is (x ∷ ss) s = ap₂ (λ a b. a || b) (eq_is s x) (has-is ss s)

  or_nothing : (b : Bool) → (b || false) ≡ b
  or_nothing true = refl
  or_nothing false = refl

  and_nothing : (b : Bool) → (b && false) ≡ false
  and_nothing true = refl
  and_nothing false = refl

  -- ---- of one reference

  eqb_turned : (a b : ℕ) → eqb a b ≡ eqb b a
  eqb_turned a b = grind (arith, nat_tests)

  has_number : (owner pid number : ℕ) (watched : Bool) (ident : ℕ)
      → has (number_sources watched owner ident) (source.Number pid number) ≡ ((pid == owner) && (watched && (ident == number)))
  has_number owner pid number true ident = or_nothing ((pid == owner) && (number == ident)) ∙ ap (λ b. (pid == owner) && b) (eqb_turned number ident)
  has_number owner pid number false ident = sym (and_nothing (pid == owner))

  number_no_target : (pid number : ℕ) (t : Option Target) → has (target_sources t) (source.Number pid number) ≡ false
  number_no_target pid number None = refl
  number_no_target pid number (Some t) = refl

  number_no_clock : (pid number : ℕ) (timed : Bool) → has (clock_sources timed) (source.Number pid number) ≡ false
  number_no_clock pid number true = refl
  number_no_clock pid number false = refl

  has_parts : (xs ys zs : List Source) (s : Source) → has (xs ++ (ys ++ zs)) s ≡ (has xs s || (has ys s || has zs s))
  has_parts xs ys zs s =
      list_any-append (same_source s) xs (ys ++ zs) ∙ ap (λ b. has xs s || b) (list_any-append (same_source s) ys zs)

  number_in : (owner pid number : ℕ) (r : Reference) → has (reference_sources owner r) (source.Number pid number) ≡ ((pid == owner) && names_number number r)
  number_in owner pid number r =
      has_parts (number_sources (watches_number r.filter) owner r.ident) (target_sources r.target) (clock_sources (is_timer r.filter)) (source.Number pid number)
      ∙ ap₂ (λ a b. a || b) (has_number owner pid number (watches_number r.filter) r.ident)
      (ap₂ (λ a b. a || b) (number_no_target pid number r.target) (number_no_clock pid number (is_timer r.filter)))
      ∙ or_nothing ((pid == owner) && names_number number r)

  target_no_number : (owner : ℕ) (t : Target) (watched : Bool) (ident : ℕ) → has (number_sources watched owner ident) (source.Of t) ≡ false
  target_no_number owner t true ident = refl
  target_no_number owner t false ident = refl

  has_target : (t : Target) (found : Option Target) → has (target_sources found) (source.Of t) ≡ is_target found t
  unfolding is_target
  has_target t None = refl
  has_target t (Some x) = or_nothing (target_eq x t)

  target_no_clock : (t : Target) (timed : Bool) → has (clock_sources timed) (source.Of t) ≡ false
  target_no_clock t true = refl
  target_no_clock t false = refl

  target_in : (owner : ℕ) (t : Target) (r : Reference) → has (reference_sources owner r) (source.Of t) ≡ is_target r.target t
  target_in owner t r =
      has_parts (number_sources (watches_number r.filter) owner r.ident) (target_sources r.target) (clock_sources (is_timer r.filter)) (source.Of t)
      ∙ ap₂ (λ a b. a || b) (target_no_number owner t (watches_number r.filter) r.ident)
      (ap₂ (λ a b. a || b) (has_target t r.target) (target_no_clock t (is_timer r.filter)))
      ∙ or_nothing (is_target r.target t)

  clock_no_number : (owner : ℕ) (watched : Bool) (ident : ℕ) → has (number_sources watched owner ident) source.Clock ≡ false
  clock_no_number owner true ident = refl
  clock_no_number owner false ident = refl

  clock_no_target : (found : Option Target) → has (target_sources found) source.Clock ≡ false
  clock_no_target None = refl
  clock_no_target (Some t) = refl

  has_clock : (timed : Bool) → has (clock_sources timed) source.Clock ≡ timed
  has_clock true = refl
  has_clock false = refl

  clock_in : (owner : ℕ) (r : Reference) → has (reference_sources owner r) source.Clock ≡ is_timer r.filter
  clock_in owner r =
      has_parts (number_sources (watches_number r.filter) owner r.ident) (target_sources r.target) (clock_sources (is_timer r.filter)) source.Clock
      ∙ ap₂ (λ a b. a || b) (clock_no_number owner (watches_number r.filter) r.ident)
      (ap₂ (λ a b. a || b) (clock_no_target r.target) (has_clock (is_timer r.filter)))

  kqueue_no_number : (owner k : ℕ) (watched : Bool) (ident : ℕ) → has (number_sources watched owner ident) (source.Kqueue k) ≡ false
  kqueue_no_number owner k true ident = refl
  kqueue_no_number owner k false ident = refl

  kqueue_no_target : (k : ℕ) (found : Option Target) → has (target_sources found) (source.Kqueue k) ≡ false
  kqueue_no_target k None = refl
  kqueue_no_target k (Some t) = refl

  kqueue_no_clock : (k : ℕ) (timed : Bool) → has (clock_sources timed) (source.Kqueue k) ≡ false
  kqueue_no_clock k true = refl
  kqueue_no_clock k false = refl

  kqueue_in : (owner k : ℕ) (r : Reference) → has (reference_sources owner r) (source.Kqueue k) ≡ false
  kqueue_in owner k r =
      has_parts (number_sources (watches_number r.filter) owner r.ident) (target_sources r.target) (clock_sources (is_timer r.filter)) (source.Kqueue k)
      ∙ ap₂ (λ a b. a || b) (kqueue_no_number owner k (watches_number r.filter) r.ident)
      (ap₂ (λ a b. a || b) (kqueue_no_target k r.target) (kqueue_no_clock k (is_timer r.filter)))

  -- ---- of all references

  -- a test of each that is a test of the list
  all_in : (owner : ℕ) (s : Source) (test : Reference → Bool) → ((r : Reference) → has (reference_sources owner r) s ≡ test r) → (rs : List Reference)
      → has (flat_map (reference_sources owner) rs) s ≡ list_any test rs
  all_in owner s test each [] = refl
  all_in owner s test each (r ∷ rs) =
      list_any-append (same_source s) (reference_sources owner r) (flat_map (reference_sources owner) rs)
      ∙ ap₂ (λ a b. a || b) (each r) (all_in owner s test each rs)

  any_and : (b : Bool) (test : Reference → Bool) (rs : List Reference) → list_any (λ r. b && test r) rs ≡ (b && list_any test rs)
  any_and true test rs = refl
  any_and false test [] = refl
  any_and false test (r ∷ rs) = any_and false test rs

  any_none : (rs : List Reference) → list_any (λ (r : Reference). false) rs ≡ false
  any_none [] = refl
  any_none (r ∷ rs) = any_none rs

  pub own-source : (kqueue owner : ℕ) (rs : List Reference) (w : model.What)
      → has_source (named_sources kqueue owner rs) (source_of (bare_what w)) ≡ model.is_own kqueue owner (named_by rs) w
  unfolding model.is_own
  own-source kqueue owner rs (model.Closed p) =
      has-is (named_sources kqueue owner rs) (source.Number p.pid p.number)
      ∙ all_in owner (source.Number p.pid p.number) (λ r. (p.pid == owner) && names_number p.number r) (number_in owner p.pid p.number) rs
      ∙ any_and (p.pid == owner) (names_number p.number) rs
  own-source kqueue owner rs (model.Told p) =
      has-is (named_sources kqueue owner rs) (source.Of p.0)
      ∙ all_in owner (source.Of p.0) (λ r. is_target r.target p.0) (target_in owner p.0) rs
  own-source kqueue owner rs (model.Clocked span) =
      has-is (named_sources kqueue owner rs) source.Clock
      ∙ all_in owner source.Clock (λ r. is_timer r.filter) (clock_in owner) rs
  own-source kqueue owner rs (model.Called c) =
      has-is (named_sources kqueue owner rs) (source.Kqueue c.kqueue)
      ∙ ap (λ b. (kqueue == c.kqueue) || b) (all_in owner (source.Kqueue c.kqueue) (λ r. false) (kqueue_in owner c.kqueue) rs ∙ any_none rs)
      ∙ or_nothing (kqueue == c.kqueue)
      ∙ eqb_turned kqueue c.kqueue

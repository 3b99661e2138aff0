-- In a table in rising order each descriptor is what its number names.
use Rattle.std.proofs.Common.{◌≡◌, ◌∙◌, ℕ, ◌&&◌, ◌||◌, Bool, true, false, cond, eqb, eq-eqb, ltb, List, [], ◌∷◌, Option, None, Some, refl, ap, ap₂, arith}
use Rattle.std.specs.Prelude.{All}
use Rattle.std.specs.List.{list_any}
use Rattle.std.proofs.lemmas.Bool.Decides.{nat_tests}
use Rattle.std.proofs.lemmas.List.Elements.{All-nil, All-cons, All-head, All-tail, All-weaker}
use Rattle.kq_model.specs.Close.{Pair, has_pair}
use Rattle.kq_model.specs.Descriptors.{Descriptor, IsRising, is_before, named_among, with_descriptor, with_descriptors}
use Rattle.kq_model.specs.ProcessPlans.{pairs_of}
use Rattle.kq_model.specs.World.{with_kqueue}
use Rattle.kq_model.proofs.KnoteLaws.{by_test}
use Rattle.kq_model.proofs.ListFilters.{All-both}

same_pair : (a b : ℕ) → (eqb a a && eqb b b) ≡ true
same_pair a b = ap₂ (λ x y. x && y) (eq-eqb a a refl) (eq-eqb b b refl)

later_pair : (a b c d : ℕ) → (ltb a c || (eqb a c && ltb b d)) ≡ true → (eqb a c && eqb b d) ≡ false
later_pair a b c d before = grind (arith, nat_tests)

apart : (e d : Descriptor) → is_before e d ≡ true → (eqb e.pid d.pid && eqb e.number d.number) ≡ false
unfolding is_before
apart e d before = later_pair e.pid e.number d.pid d.number before

abbrev pub IsNamedIn : List Descriptor → Descriptor → Type 0
IsNamedIn es d = named_among d.pid d.number es ≡ Some d.named

pub named-rising : (es : List Descriptor) → IsRising es → All (IsNamedIn es) es
unfolding named_among
named-rising [] rising = All-nil (IsNamedIn [])
named-rising (e ∷ es) rising =
    All-cons (IsNamedIn (e ∷ es)) e es (ap (λ b. cond b (Some e.named) (named_among e.pid e.number es)) (same_pair e.pid e.number))
    (All-both (λ d. is_before e d ≡ true) (IsNamedIn es) (IsNamedIn (e ∷ es))
    (λ d before found. ap (λ b. cond b (Some e.named) (named_among d.pid d.number es)) (apart e d before) ∙ found) es rising.0 (named-rising es rising.1))

or_true : (b : Bool) → (b || true) ≡ true
or_true true = refl
or_true false = refl

pub pairs-there : (ds : List Descriptor) → All (λ (d : Descriptor). has_pair d.pid d.number (pairs_of ds) ≡ true) ds
pairs-there [] = All-nil _
pairs-there (d ∷ ds) =
    All-cons (λ (x : Descriptor). has_pair x.pid x.number (pairs_of (d ∷ ds)) ≡ true) d ds (ap (λ b. b || has_pair d.pid d.number (pairs_of ds)) (same_pair d.pid d.number))
    (All-weaker (λ (x : Descriptor). has_pair x.pid x.number (pairs_of ds) ≡ true) (λ (x : Descriptor). has_pair x.pid x.number (pairs_of (d ∷ ds)) ≡ true)
    (λ x there. ap (λ b. (eqb d.pid x.pid && eqb d.number x.number) || b) there ∙ or_true (eqb d.pid x.pid && eqb d.number x.number)) ds (pairs-there ds))

-- ---- what was put into a table

module _ (P : Descriptor → Type 0) where
  one-put : (d : Descriptor) (es : List Descriptor) → All P (with_descriptor d es) → P d × All P es
  unfolding with_descriptor
  one-put d [] all = (All-head P d [] all, All-nil P)
  one-put d (e ∷ es) all =
      by_test (λ b. All P (cond b (d ∷ e ∷ es) (e ∷ with_descriptor d es)) → P d × All P (e ∷ es)) (is_before d e)
      (λ _ first. (All-head P d (e ∷ es) first, All-tail P d (e ∷ es) first))
      (λ _ later. let rest = one-put d es (All-tail P e (with_descriptor d es) later) in
      (rest.0, All-cons P e es (All-head P e (with_descriptor d es) later) rest.1)) all

  many-put : (ds es : List Descriptor) → All P (with_descriptors ds es) → All P ds × All P es
  unfolding with_descriptors
  many-put [] es all = (All-nil P, all)
  many-put (d ∷ ds) es all =
      let rest = many-put ds (with_descriptor d es) all in
      let one = one-put d es rest.1 in
      (All-cons P d ds one.0 rest.0, one.1)

  pub opened-put : (place : ℕ) (born : Option Pair) (ds es : List Descriptor) → All P (with_kqueue place born (with_descriptors ds es)) → All P ds
  unfolding with_kqueue
  opened-put place None ds es all = (many-put ds es all).0
  opened-put place (Some p) ds es all = (many-put ds es (one-put _ (with_descriptors ds es) all).1).0

abbrev pub is_same : Descriptor → Descriptor → Bool
is_same d x = eqb x.pid d.pid && eqb x.number d.number

pub stand-there : (ds : List Descriptor) → All (λ (d : Descriptor). list_any (is_same d) ds ≡ true) ds
stand-there [] = All-nil _
stand-there (d ∷ ds) =
    All-cons (λ (x : Descriptor). list_any (is_same x) (d ∷ ds) ≡ true) d ds (ap (λ b. b || list_any (is_same d) ds) (same_pair d.pid d.number))
    (All-weaker (λ (x : Descriptor). list_any (is_same x) ds ≡ true) (λ (x : Descriptor). list_any (is_same x) (d ∷ ds) ≡ true)
    (λ x there. ap (λ b. is_same x d || b) there ∙ or_true (is_same x d)) ds (stand-there ds))

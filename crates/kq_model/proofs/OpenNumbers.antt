-- What a number that is open names, a record leaves as it was, unless it closes the number. For whatever it
-- opens is new in the table, which stays in rising order.
use Rattle.std.proofs.Common.{◌≡◌, ℕ, true, false, cond, ◌&&◌, ◌||◌, eqb, ltb, List, [], ◌∷◌, Option, Some, None, refl, sym, ◌∙◌, arith}
use Rattle.std.proofs.lemmas.Bool.{true≢false}
use Rattle.std.proofs.lemmas.Bool.Decides.{nat_tests}
use Rattle.std.proofs.lemmas.List.Elements.{All-nil, All-cons, All-head, All-tail}
use Rattle.std.proofs.lemmas.Option.{none-some}
use Rattle.std.specs.Prelude.{All}
use Rattle.kq_model.specs.declared.object.Named.{Named}
use Rattle.kq_model.specs.Close.{Pair, has_pair}
use Rattle.kq_model.specs.Descriptors.{Descriptor, IsRising, is_before, named_among, with_descriptor, with_descriptors, without_closed}
use Rattle.kq_model.specs.Objects.{Keeping}
use Rattle.kq_model.specs.World.{World, Plan, carried_out, with_kqueue}
use Rattle.kq_model.proofs.KnoteLaws.{by_test}
use Rattle.kq_model.proofs.UntouchedNumbers.{is_it, other-closed, other-descriptor}

-- ---- what held with one more held without it

all-without : (P : Descriptor → Type 0) (d : Descriptor) (es : List Descriptor) → All P (with_descriptor d es)
    → P d × All P es
unfolding with_descriptor
all-without P d [] all = (All-head P d [] all, All-nil P)
all-without P d (e ∷ es) all =
    by_test (λ b. All P (cond b (d ∷ e ∷ es) (e ∷ with_descriptor d es)) → P d × All P (e ∷ es)) (is_before d e)
    (λ _ first. (All-head P d (e ∷ es) first, All-tail P d (e ∷ es) first))
    (λ _ later.
    let behind = all-without P d es (All-tail P e (with_descriptor d es) later) in
    (behind.0, All-cons P e es (All-head P e (with_descriptor d es) later) behind.1))
    all

rising-without : (d : Descriptor) (es : List Descriptor) → IsRising (with_descriptor d es) → IsRising es
unfolding with_descriptor
rising-without d [] rising = tt
rising-without d (e ∷ es) rising =
    by_test (λ b. IsRising (cond b (d ∷ e ∷ es) (e ∷ with_descriptor d es)) → IsRising (e ∷ es)) (is_before d e)
    (λ _ first. first.1)
    (λ _ later. ((all-without (λ x. is_before e x ≡ true) d es later.0).1, rising-without d es later.1))
    rising

rising-without_all : (ds es : List Descriptor) → IsRising (with_descriptors ds es) → IsRising es
unfolding with_descriptors
rising-without_all [] es rising = rising
rising-without_all (d ∷ ds) es rising = rising-without d es (rising-without_all ds (with_descriptor d es) rising)

-- ---- in rising order no number stands twice

-- of a pair of numbers: by the first, then by the second
before-itself : (p n q m r k : ℕ) → eqb p r && eqb n k ≡ true → eqb q r && eqb m k ≡ true
    → ltb p q || (eqb p q && ltb n m) ≡ false
before-itself p n q m r k = grind (arith, nat_tests)

module _ (pid number : ℕ) where
  apart : (d e : Descriptor) → is_it pid number d ≡ true → is_it pid number e ≡ true → is_before d e ≡ false
  unfolding is_before
  apart d e = before-itself d.pid d.number e.pid e.number pid number

  others-apart : (d : Descriptor) (es : List Descriptor) → is_it pid number d ≡ true
      → All (λ x. is_before d x ≡ true) es → named_among pid number es ≡ None
  unfolding named_among
  others-apart d [] it all = refl
  others-apart d (e ∷ es) it all =
      by_test (λ b. is_it pid number e ≡ b
      → cond b (Some e.named) (named_among pid number es) ≡ None) (is_it pid number e)
      (λ _ same. absurd (true≢false (sym (All-head (λ x. is_before d x ≡ true) e es all) ∙ apart d e it same)))
      (λ _ _. others-apart d es it (All-tail (λ x. is_before d x ≡ true) e es all))
      refl

  -- what was put where it belongs was not there
  was-absent : (d : Descriptor) (es : List Descriptor) → is_it pid number d ≡ true → IsRising (with_descriptor d es)
      → named_among pid number es ≡ None
  unfolding with_descriptor named_among
  was-absent d [] it rising = refl
  was-absent d (e ∷ es) it rising =
      by_test (λ b. IsRising (cond b (d ∷ e ∷ es) (e ∷ with_descriptor d es))
      → named_among pid number (e ∷ es) ≡ None) (is_before d e)
      (λ _ first. others-apart d (e ∷ es) it first.0)
      (λ _ later.
      let behind = (all-without (λ x. is_before e x ≡ true) d es later.0).0 in
      by_test (λ b. is_it pid number e ≡ b
      → cond b (Some e.named) (named_among pid number es) ≡ None) (is_it pid number e)
      (λ _ same. absurd (true≢false (sym behind ∙ apart e d same it)))
      (λ _ _. was-absent d es it later.1) refl)
      rising

  -- ---- what is open stays as it is

  open-with : (d : Descriptor) (es : List Descriptor) (n : Named) → IsRising (with_descriptor d es)
      → named_among pid number es ≡ Some n
      → named_among pid number (with_descriptor d es) ≡ Some n
  open-with d es n rising found =
      by_test (λ b. is_it pid number d ≡ b
      → named_among pid number (with_descriptor d es) ≡ Some n) (is_it pid number d)
      (λ _ it. absurd (none-some n (sym (was-absent d es it rising) ∙ found)))
      (λ _ other. other-descriptor pid number d es other ∙ found)
      refl

  open-with_all : (ds es : List Descriptor) (n : Named) → IsRising (with_descriptors ds es)
      → named_among pid number es ≡ Some n
      → named_among pid number (with_descriptors ds es) ≡ Some n
  unfolding with_descriptors
  open-with_all [] es n rising found = found
  open-with_all (d ∷ ds) es n rising found =
      open-with_all ds (with_descriptor d es) n rising
      (open-with d es n (rising-without_all ds (with_descriptor d es) rising) found)

  open-with_kqueue : (place : ℕ) (p : Option Pair) (es : List Descriptor) (n : Named)
      → IsRising (with_kqueue place p es)
      → named_among pid number es ≡ Some n → named_among pid number (with_kqueue place p es) ≡ Some n
  unfolding with_kqueue
  open-with_kqueue place None es n rising found = found
  open-with_kqueue place (Some p) es n rising found = open-with _ es n rising found

  rising-without_kqueue : (place : ℕ) (p : Option Pair) (es : List Descriptor) → IsRising (with_kqueue place p es)
      → IsRising es
  unfolding with_kqueue
  rising-without_kqueue place None es rising = rising
  rising-without_kqueue place (Some p) es rising = rising-without _ es rising

  -- a number that is open and is not closed names what it named
  pub stays-open : {A B C D : Type 0} {k : Keeping A B C D} (place : ℕ) (p : Plan) (w : World k) (n : Named)
      → IsRising (carried_out place p w).table → has_pair pid number p.closed ≡ false
      → named_among pid number w.table ≡ Some n
      → named_among pid number (carried_out place p w).table ≡ Some n
  unfolding carried_out
  stays-open place p w n rising stays found =
      let kept = without_closed p.closed w.table in
      let before = rising-without_kqueue place p.born (with_descriptors p.opened kept) rising in
      open-with_kqueue place p.born (with_descriptors p.opened kept) n rising
      (open-with_all p.opened kept n before (other-closed pid number p.closed w.table stays ∙ found))

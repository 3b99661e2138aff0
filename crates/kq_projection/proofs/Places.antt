-- Where a number stands among rising ones.
use Rattle.std.proofs.Common.{◌≡◌, ◌≢◌, ◌<◌, ◌≤◌, ℕ, zero, suc, true, false, ltb, length, List, [], ◌∷◌, get_or, refl, sym, ap, subst, ◌∙◌, arith}
use Rattle.std.specs.List.{Contains}
use Rattle.std.specs.List.Sorted.{IsNonDecreasingBy, IsStrictlyIncreasing}
use Rattle.std.proofs.lemmas.Bool.{ltb-true, ltb-false}
use Rattle.std.proofs.lemmas.Map.Keys.{below_from_sorted, sorted_from_strictly_increasing}
use Rattle.kq_model.proofs.KnoteLaws.{by_test}

-- within a list the element that stands for none makes no difference
pub other-none : {X : Type 0} (xs : List X) (index : ℕ) (d e : X) → index < length xs → get_or xs index d ≡ get_or xs index e
other-none [] index d e within = absurd (omega (arith, within))
other-none (x ∷ xs) zero d e within = refl
other-none (x ∷ xs) (suc index) d e within = other-none xs index d e (omega (arith, within))

rises-strictly : (xs : List ℕ) → IsStrictlyIncreasing xs → (i j d : ℕ) → i < j → j < length xs → get_or xs i d < get_or xs j d
rises-strictly xs rises i j d less within = below_from_sorted xs i j d (sorted_from_strictly_increasing xs rises) less within

pub does-not-fall : (xs : List ℕ) → IsStrictlyIncreasing xs → IsNonDecreasingBy (λ (x : ℕ). x) xs
does-not-fall xs rises = λ i j d le within.
    by_test (λ b. get_or xs i d ≤ get_or xs j d) (ltb i j)
    (λ is.
    let below : get_or xs i d < get_or xs j d = rises-strictly xs rises i j d (ltb-true i j is) within in
    omega (arith, below))
    (λ isnt.
    let up : j ≤ i = ltb-false i j isnt in
    let same : i ≡ j = omega (arith, le, up) in
    let equal : get_or xs i d ≡ get_or xs j d = ap (λ k. get_or xs k d) same in
    omega (arith, equal))

module _ (xs : List ℕ) (place count : ℕ) (rises : IsStrictlyIncreasing xs)
    (before : (k d : ℕ) → k < count → ltb (get_or xs k d) place ≡ true)
    (after : (k d : ℕ) → count ≤ k → k < length xs → ltb (get_or xs k d) place ≡ false) where
  -- it stands nowhere else
  pub index-alone : (k : ℕ) → k < length xs → get_or xs k 0 ≡ place → k ≡ count
  index-alone k within here =
      let not_before : count ≤ k = by_test (λ b. count ≤ k) (ltb k count)
      (λ is.
      let less : get_or xs k 0 < place = ltb-true (get_or xs k 0) place (before k 0 (ltb-true k count is)) in
      absurd (omega (arith, less, here)))
      (λ isnt. ltb-false k count isnt) in
      by_test (λ b. k ≡ count) (ltb count k)
      (λ is.
      let later : count < k = ltb-true count k is in
      let below : get_or xs count 0 < get_or xs k 0 = rises-strictly xs rises count k 0 later within in
      let reached : place ≤ get_or xs count 0 = ltb-false (get_or xs count 0) place (after count 0 (omega arith) (omega (arith, later, within))) in
      absurd (omega (arith, below, reached, here)))
      (λ isnt.
      let up : k ≤ count = ltb-false count k isnt in
      omega (arith, up, not_before))

  index-is : (there : Contains xs place) → there.0 ≡ count
  index-is there = index-alone there.0 there.1 (other-none xs there.0 0 place there.1 ∙ there.2)

  pub index-inside : Contains xs place → count < length xs
  index-inside there = subst (λ k. k < length xs) (index-is there) there.1

  pub index-there : Contains xs place → get_or xs count 0 ≡ place
  index-there there =
      ap (λ k. get_or xs k 0) (sym (index-is there)) ∙ other-none xs there.0 0 place there.1 ∙ there.2

  -- nor anywhere, where it is not the one that begins there
  pub index-absent : (count < length xs → get_or xs count 0 ≢ place) → (k : ℕ) → k < length xs → get_or xs k 0 ≢ place
  index-absent not_here k within here =
      let is = index-alone k within here in
      not_here (subst (λ n. n < length xs) is within) (ap (λ n. get_or xs n 0) (sym is) ∙ here)

-- Where the items of some sources stand, in rising order, gives the items of these sources in their order.
use Rattle.std.proofs.Common.{◌≡◌, ◌+◌, ◌<◌, ◌≤◌, ◌||◌, ℕ, suc, Bool, true, false, cond, List, [], ◌∷◌, ◌++◌, map, filter, length, refl, sym, ap, ap₂, subst, ◌∙◌, arith}
use Rattle.std.specs.Cmp.{IsEquivalence}
use Rattle.std.specs.List.{All, AllByRecursion, IsDistinct, list_any}
use Rattle.std.specs.List.Sorted.{IsPermutation}
use Rattle.std.proofs.lemmas.List.{append_assoc, append-nil}
use Rattle.std.proofs.lemmas.List.Elements.{All-nil, All-cons}
use Rattle.std.proofs.lemmas.List.Sorted.{IsPermutation-refl, IsPermutation-trans, IsPermutation-cons, IsPermutation-middle, IsPermutation-append_right, sum_by-IsPermutation}
use Rattle.std.proofs.lemmas.Map.Steps.{list_any_congr}
use Rattle.kq_model.proofs.KnoteLaws.{by_test}
use Rattle.kq_projection.specs.declared.history.item.Item.{Item}
use Rattle.kq_projection.specs.declared.history.item.Source.{Source}
use Rattle.kq_projection.specs.Items.{source_eq, source_of, is_from}
use Rattle.kq_projection.specs.MessageIndex.{standing, comes_from, all_standing, item_at}
use Rattle.kq_projection.specs.PostingLists.{posting}
use Rattle.kq_projection.proofs.Rising.{AreFrom, DoNotFall, one_order}

module _ {X : Type 0} where
  -- one element more
  pub standing-push : (test : X → Bool) (from : ℕ) (xs : List X) (x : X)
      → standing test from (xs ++ x ∷ []) ≡ standing test from xs ++ posting (test x) (from + length xs)
  standing-push test from [] x =
      let here : from ≡ from + 0 = omega arith in
      append-nil (posting (test x) from) ∙ ap (λ n. posting (test x) n) here
  standing-push test from (y ∷ xs) x =
      let here : from + 1 + length xs ≡ from + length (y ∷ xs) = omega arith in
      ap (λ rest. posting (test y) from ++ rest) (standing-push test (from + 1) xs x)
      ∙ sym (append_assoc (posting (test y) from) (standing test (from + 1) xs) (posting (test x) (from + 1 + length xs)))
      ∙ ap (λ n. (posting (test y) from ++ standing test (from + 1) xs) ++ posting (test x) n) here

  -- ---- the places rise

  pub standing-from : (test : X → Bool) (n from : ℕ) (xs : List X) → n ≤ from → AreFrom n (standing test from xs)
  standing-from test n from [] le = tt
  standing-from test n from (x ∷ xs) le =
      by_test (λ b. AreFrom n (posting b from ++ standing test (from + 1) xs)) (test x)
      (λ _. (le, standing-from test n (from + 1) xs (omega (arith, le))))
      (λ _. standing-from test n (from + 1) xs (omega (arith, le)))

  pub standing-rises : (test : X → Bool) (from : ℕ) (xs : List X) → DoNotFall (standing test from xs)
  standing-rises test from [] = tt
  standing-rises test from (x ∷ xs) =
      by_test (λ b. DoNotFall (posting b from ++ standing test (from + 1) xs)) (test x)
      (λ _. (standing-from test from (from + 1) xs (omega arith), standing-rises test (from + 1) xs))
      (λ _. standing-rises test (from + 1) xs)

  standing-within : (test : X → Bool) (from end : ℕ) (xs : List X) → from + length xs ≡ end → All (λ n. n < end) (standing test from xs)
  standing-within test from end [] reached = All-nil (λ n. n < end)
  standing-within test from end (x ∷ xs) reached =
      by_test (λ b. All (λ n. n < end) (posting b from ++ standing test (from + 1) xs)) (test x)
      (λ _. All-cons (λ n. n < end) from (standing test (from + 1) xs) (omega (arith, reached)) (standing-within test (from + 1) end xs (omega (arith, reached))))
      (λ _. standing-within test (from + 1) end xs (omega (arith, reached)))

  -- ---- of two tests that no element passes both

  pub standing-none : (from : ℕ) (xs : List X) → standing (λ x. false) from xs ≡ []
  standing-none from [] = refl
  standing-none from (x ∷ xs) = standing-none (from + 1) xs

  pub merged : (p q : X → Bool) → ((x : X) → p x ≡ true → q x ≡ false) → (from : ℕ) (xs : List X)
      → IsPermutation (standing p from xs ++ standing q from xs) (standing (λ x. p x || q x) from xs)
  merged p q apart from [] = IsPermutation-refl []
  merged p q apart from (x ∷ xs) =
      let a = standing p (from + 1) xs in
      let b = standing q (from + 1) xs in
      let c = standing (λ y. p y || q y) (from + 1) xs in
      let rest = merged p q apart (from + 1) xs in
      by_test (λ v. p x ≡ v → IsPermutation ((posting v from ++ a) ++ (posting (q x) from ++ b)) (posting (v || q x) from ++ c)) (p x)
      (λ _ is. subst (λ w. IsPermutation ((from ∷ a) ++ (posting w from ++ b)) (from ∷ c)) (sym (apart x is)) (IsPermutation-cons from (a ++ b) c rest))
      (λ _ _. by_test (λ w. IsPermutation (a ++ (posting w from ++ b)) (posting w from ++ c)) (q x)
      (λ _. IsPermutation-trans (a ++ from ∷ b) (from ∷ (a ++ b)) (from ∷ c) (IsPermutation-middle a from b) (IsPermutation-cons from (a ++ b) c rest))
      (λ _. rest))
      refl

-- ---- sources, each once

module _ (laws : IsEquivalence source_eq) (items : List Item) where
  not_listed : (s : Source) (ss : List Source) → AllByRecursion (λ y. source_eq s y ≡ false) ss → list_any (source_eq s) ss ≡ false
  not_listed s [] all = refl
  not_listed s (y ∷ ss) all = ap₂ (λ a b. a || b) all.0 (not_listed s ss all.1)

  pub sources_merged : (sources : List Source) → IsDistinct source_eq sources → IsPermutation (all_standing items sources) (standing (is_from sources) 0 items)
  unfolding IsDistinct
  sources_merged [] distinct = subst (IsPermutation []) (sym (standing-none 0 items)) (IsPermutation-refl [])
  sources_merged (s ∷ ss) distinct =
      IsPermutation-trans (standing (comes_from s) 0 items ++ all_standing items ss) (standing (comes_from s) 0 items ++ standing (is_from ss) 0 items) (standing (is_from (s ∷ ss)) 0 items)
      (IsPermutation-append_right (standing (comes_from s) 0 items) (all_standing items ss) (standing (is_from ss) 0 items) (sources_merged ss distinct.1))
      (merged (comes_from s) (is_from ss)
      (λ i is. list_any_congr laws (source_of i.what) s ss is ∙ not_listed s ss distinct.0) 0 items)

  -- so what a sort makes of them is known
  pub sorted_is : (sources : List Source) (sorted : List ℕ) → IsDistinct source_eq sources → IsPermutation (all_standing items sources) sorted → DoNotFall sorted
      → sorted ≡ standing (is_from sources) 0 items
  sorted_is sources sorted distinct moved rises =
      one_order sorted (standing (is_from sources) 0 items) rises (standing-rises (is_from sources) 0 items)
      (λ f. sum_by-IsPermutation f (all_standing items sources) sorted moved
      ∙ sym (sum_by-IsPermutation f (all_standing items sources) (standing (is_from sources) 0 items) (sources_merged sources distinct)))

-- ---- the items that stand there

pub standing-inside : (test : Item → Bool) (items : List Item) → All (λ n. n < length items) (standing test 0 items)
standing-inside test items = standing-within test 0 (length items) items (omega arith)

read_from : (test : Item → Bool) (all : List Item) (from : ℕ) (items : List Item) → ((k : ℕ) → k < length items → item_at all (from + k) ≡ item_at items k)
    → map (item_at all) (standing test from items) ≡ filter test items
read_from test all from [] reads = refl
read_from test all from (i ∷ items) reads =
    let start : from ≡ from + 0 = omega arith in
    let here : item_at all from ≡ i = ap (λ n. item_at all n) start ∙ reads 0 (omega arith) in
    let rest = read_from test all (from + 1) items
    (λ k within. let next : from + 1 + k ≡ from + suc k = omega arith in ap (λ n. item_at all n) next ∙ reads (suc k) (omega (arith, within))) in
    by_test (λ b. map (item_at all) (posting b from ++ standing test (from + 1) items) ≡ cond b (i ∷ filter test items) (filter test items)) (test i)
    (λ _. ap₂ (λ (x : Item) (xs : List Item). x ∷ xs) here rest) (λ _. rest)

pub read_all : (test : Item → Bool) (items : List Item) → map (item_at items) (standing test 0 items) ≡ filter test items
read_all test items = read_from test items 0 items (λ k within. let same : 0 + k ≡ k = omega arith in ap (λ n. item_at items n) same)

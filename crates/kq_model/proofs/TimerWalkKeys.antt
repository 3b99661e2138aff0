-- The knotes of a kqueue meet what the law of the walk asks of keys.
use Rattle.std.proofs.Common.{◌≡◌, ℕ, Bool, true, false, cond, eqb, Some, None, List, [], ◌∷◌, map, refl, arith}
use Rattle.std.specs.Cmp.{IsEquivalence}
use Rattle.std.specs.List.{AllByRecursion, IsDistinct}
use Rattle.std.proofs.lemmas.Bool.{and_from, and_parts, eq-eqb, eqb-true}
use Rattle.std.proofs.lemmas.Bool.Decides.{nat_tests}
use Rattle.std.proofs.lemmas.Map.Keys.{IsDistinct-cons}
use Rattle.kq_model.specs.declared.key.Key.{Key}
use Rattle.kq_model.specs.Hearing.{Hearing}
use Rattle.kq_model.specs.Knote.{Knote, key_eq, filter_number, find_knote}
use Rattle.kq_model.specs.Kqueue.{HaveOwnKeys}

eqb-comm : (a b : ℕ) → eqb a b ≡ eqb b a
eqb-comm a b = grind (arith, nat_tests)

pub key_eq-laws : IsEquivalence key_eq
key_eq-laws = record {
  refl = λ a. and_from _ _ (eq-eqb a.ident a.ident refl) (eq-eqb (filter_number a.filter) (filter_number a.filter) refl);
  symm = λ a b. rw (eqb-comm a.ident b.ident, eqb-comm (filter_number a.filter) (filter_number b.filter));
  congr = λ a b c e.
      let same = and_parts _ _ e in
      let ident : a.ident ≡ b.ident = eqb-true a.ident b.ident same.0 in
      let number : filter_number a.filter ≡ filter_number b.filter = eqb-true (filter_number a.filter) (filter_number b.filter) same.1 in
      rw (ident, number);
}

module _ {S : Type 0} {h : Hearing S} where
  others : (key : Key) (ks : List (Knote h)) → find_knote key ks ≡ None → AllByRecursion (λ other. key_eq key other ≡ false) (map (λ k. k.key) ks)
  unfolding find_knote
  others key [] absent = tt
  others key (k ∷ ks) absent = by_test (key_eq key k.key) refl absent (others key ks)
    where
      by_test : (t : Bool) → key_eq key k.key ≡ t → cond t (Some k) (find_knote key ks) ≡ None
          → (find_knote key ks ≡ None → AllByRecursion (λ other. key_eq key other ≡ false) (map (λ k. k.key) ks))
          → AllByRecursion (λ other. key_eq key other ≡ false) (map (λ k. k.key) (k ∷ ks))
      by_test true e found rest = cc
      by_test false e found rest = (e, rest found)

  pub distinct_keys : (ks : List (Knote h)) → HaveOwnKeys ks → IsDistinct key_eq (map (λ k. k.key) ks)
  unfolding IsDistinct
  distinct_keys [] own = tt
  distinct_keys (k ∷ ks) own = IsDistinct-cons key_eq k.key (map (λ k. k.key) ks) (others k.key ks own.0) (distinct_keys ks own.1)

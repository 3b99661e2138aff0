-- The kqueue of a place at the index where it stands: what is found and written there is what is found and written by
-- the place.
use Rattle.std.proofs.Common.{◌≡◌, ◌∙◌, ◌+◌, ◌≤◌, ℕ, zero, suc, Bool, true, false, cond, not, List, [], ◌∷◌, length, nat_eq, nat_lt, slice_get, None, Some, refl, sym, ap, arith}
use Rattle.std.proofs.lemmas.Bool.Decides.{nat_tests}
use Rattle.std.proofs.lemmas.List.Sums.{prefix_len-le-length}
use Rattle.std.proofs.lemmas.Map.Entries.{length-keys_of}
use Rattle.std.specs.List.{AllByRecursion, IsDistinct, position, position_or_len}
use Rattle.std.specs.Map.{lookup, keys_of, set_value, values_of}
use Rattle.std.specs.Option.{unwrap_or}
use Rattle.indexmap.specs.IndexMap.{set_value_at}
use Rattle.kq_system.specs.Places.{has_place}
use Rattle.kq_system.specs.SystemState.{NumberedKqueue}
use Rattle.kq_system.proofs.ShowLemmas.{Entries, by_test}

one_more : (n : ℕ) → 1 + n ≡ suc n
one_more n = omega arith

module _ (t : ℕ → Bool) where
  value_step : (e : ℕ × NumberedKqueue) (es : Entries) (n : ℕ) (b : Bool) → slice_get (values_of es) n ≡ lookup t es
      → slice_get (e.1 ∷ values_of es) (cond (not b) (1 + n) 0) ≡ cond b (Some e.1) (lookup t es)
  value_step e es n true there = refl
  value_step e es n false there = ap (slice_get (e.1 ∷ values_of es)) (one_more n) ∙ there

  pub value_there : (es : Entries) → slice_get (values_of es) (position_or_len t (keys_of es)) ≡ lookup t es
  value_there [] = refl
  value_there (e ∷ es) = value_step e es (position_or_len t (keys_of es)) (t e.0) (value_there es)

  set_step : (e : ℕ × NumberedKqueue) (es : Entries) (w : NumberedKqueue) (n : ℕ) (b : Bool)
      → set_value_at es n w ≡ set_value t es w
      → set_value_at (e ∷ es) (cond (not b) (1 + n) 0) w ≡ cond b ((e.0, w) ∷ es) (e ∷ set_value t es w)
  set_step e es w n true there = refl
  set_step e es w n false there =
      ap (λ i. set_value_at (e ∷ es) i w) (one_more n) ∙ ap (λ (ns : Entries). e ∷ ns) there

  pub set_there : (es : Entries) (w : NumberedKqueue)
      → set_value_at es (position_or_len t (keys_of es)) w ≡ set_value t es w
  set_there [] w = refl
  set_there (e ∷ es) w = set_step e es w (position_or_len t (keys_of es)) (t e.0) (set_there es w)

  or_end : (n m : ℕ) → n ≤ m → unwrap_or (cond (nat_lt n m) (Some n) None) m ≡ n
  or_end n m le =
      by_test (λ b. nat_lt n m ≡ b → unwrap_or (cond b (Some n) None) m ≡ n) (nat_lt n m) (λ _ is. refl)
      (λ _ is. grind (arith, nat_tests)) refl

  -- the index that is found, or the end
  pub found_or_end : (es : Entries) → unwrap_or (position t (keys_of es)) (length es) ≡ position_or_len t (keys_of es)
  found_or_end es =
      ap (unwrap_or (position t (keys_of es))) (sym (length-keys_of es))
      ∙ or_end (position_or_len t (keys_of es)) (length (keys_of es))
      (prefix_len-le-length (λ k. not (t k)) (keys_of es))

-- a key behind the first one is another
other_key : (j : ℕ) (es : Entries) (i k : ℕ) (v : NumberedKqueue)
    → AllByRecursion (λ y. nat_eq j y ≡ false) (keys_of es) → slice_get es i ≡ Some (k, v) → nat_eq k j ≡ false
other_key j [] i k v others at = absurd (cc)
other_key j (e ∷ es) zero k v others at =
    let same : e ≡ (k, v) = cc in
    let here : nat_eq j k ≡ false = sym (ap (λ (x : ℕ × NumberedKqueue). nat_eq j x.0) same) ∙ others.0 in
    grind (arith, nat_tests)
other_key j (e ∷ es) (suc i) k v others at = other_key j es i k v others.1 at

-- the key that stands at an index is found there
pub stands_there : (es : Entries) (i k : ℕ) (v : NumberedKqueue) → IsDistinct nat_eq (keys_of es)
    → slice_get es i ≡ Some (k, v) → position_or_len (nat_eq k) (keys_of es) ≡ i
unfolding IsDistinct
stands_there [] i k v distinct at = absurd (cc)
stands_there (e ∷ es) zero k v distinct at =
    let same : e ≡ (k, v) = cc in
    let self : nat_eq k k ≡ true = grind (arith, nat_tests) in
    let here : nat_eq k e.0 ≡ true = ap (λ (x : ℕ × NumberedKqueue). nat_eq k x.0) same ∙ self in
    ap (λ b. cond (not b) (1 + position_or_len (nat_eq k) (keys_of es)) 0) here
stands_there (e ∷ es) (suc i) k v distinct at =
    ap (λ b. cond (not b) (1 + position_or_len (nat_eq k) (keys_of es)) 0) (other_key e.0 es i k v distinct.0 at)
    ∙ one_more (position_or_len (nat_eq k) (keys_of es)) ∙ ap suc (stands_there es i k v distinct.1 at)

-- there is no place where there is no first one
pub none_there : (place : ℕ) (places : List ℕ) → slice_get places 0 ≡ None → has_place place places ≡ true
    → false ≡ true
none_there place [] none has = has
none_there place (p ∷ ps) none has = absurd (cc)

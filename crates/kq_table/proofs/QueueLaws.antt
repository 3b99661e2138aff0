-- Keys in a queue are the keys of rows: what is found among the rows is found among the keys.
use Rattle.std.proofs.Common.{◌≡◌, Bool, true, false, cond, ◌||◌, not, List, [], ◌∷◌, ◌++◌, map, Some, None, is_some, slice_get, refl, sym, ap, ◌∙◌, subst}
use Rattle.std.proofs.lemmas.Bool.{or_parts, not_from_true, not_from_false}
use Rattle.std.proofs.lemmas.Option.{none-some, same_Some, slice_get-map}
use Rattle.std.specs.Cmp.{IsEquivalence}
use Rattle.std.specs.Option.{option_map}
use Rattle.kq_table.specs.Rows.{find_row, row_after, without_row, HaveOwnKeys, waits_in, enqueued, put_in, without_waiting, with_first, key_behind, turned, AreOnce, HaveRows}
use Rattle.kq_table.proofs.RowLaws.{by_test, find_row-none, find_row-cons}

module _ {K T : Type 0} (same : K → K → Bool) (key_of : T → K) where
  pub waits_in-keys : (key : K) (rows : List T) → waits_in same key (map key_of rows) ≡ is_some (find_row same key_of key rows)
  waits_in-keys key [] = sym (ap is_some (find_row-none same key_of key))
  waits_in-keys key (x ∷ rows) =
      by_test (λ b. (b || waits_in same key (map key_of rows)) ≡ is_some (cond b (Some x) (find_row same key_of key rows))) (same key (key_of x))
      (λ _. refl) (λ _. waits_in-keys key rows)
      ∙ ap is_some (sym (find_row-cons same key_of key x rows))

  pub key_behind-keys : (key : K) (rows : List T) → key_behind same key (map key_of rows) ≡ option_map key_of (row_after same key_of key rows)
  unfolding key_behind row_after
  key_behind-keys key [] = refl
  key_behind-keys key (x ∷ rows) =
      by_test (λ b. cond b (slice_get (map key_of rows) 0) (key_behind same key (map key_of rows)) ≡ option_map key_of (cond b (slice_get rows 0) (row_after same key_of key rows))) (same key (key_of x))
      (λ _. slice_get-map key_of rows 0) (λ _. key_behind-keys key rows)

  abbrev kept : {X : Type 0} → X → List X → Bool → List X
  kept x rest b = cond b (x ∷ rest) rest

  pub without_waiting-keys : (key : K) (rows : List T) → without_waiting same key (map key_of rows) ≡ map key_of (without_row same key_of key rows)
  without_waiting-keys key [] = refl
  without_waiting-keys key (x ∷ rows) =
      by_test (λ b. kept (key_of x) (without_waiting same key (map key_of rows)) b ≡ map key_of (kept x (without_row same key_of key rows) b)) (not (same key (key_of x)))
      (λ _. ap (λ rest. key_of x ∷ rest) (without_waiting-keys key rows)) (λ _. without_waiting-keys key rows)

  pub AreOnce-keys : (rows : List T) → HaveOwnKeys same key_of rows → AreOnce same (map key_of rows)
  AreOnce-keys [] own = tt
  AreOnce-keys (x ∷ rows) own = (waits_in-keys (key_of x) rows ∙ ap is_some own.0, AreOnce-keys rows own.1)

-- the first of a list, and what is behind it
pub front-of : {X : Type 0} (xs : List X) (x : X) → slice_get xs 0 ≡ Some x → (rest : List X) × (xs ≡ x ∷ rest)
front-of [] x first = absurd (none-some x first)
front-of (y ∷ xs) x first = (xs, ap (λ z. z ∷ xs) (same_Some y x first))

pub none-of : {X : Type 0} (xs : List X) → slice_get xs 0 ≡ None → xs ≡ []
none-of [] none = refl
none-of (y ∷ xs) some = absurd (none-some y (sym some))

module _ {K : Type 0} (same : K → K → Bool) (key : K) (queue : List K) where
  pub with_first-there : waits_in same key queue ≡ true → with_first same key queue ≡ key ∷ without_waiting same key queue
  with_first-there waits = ap (λ b. cond b (key ∷ without_waiting same key queue) queue) waits

  pub with_first-absent : waits_in same key queue ≡ false → with_first same key queue ≡ queue
  with_first-absent out = ap (λ b. cond b (key ∷ without_waiting same key queue) queue) out

module _ {K : Type 0} (same : K → K → Bool) (laws : IsEquivalence same) where
  pub without_waiting-absent : (key : K) (queue : List K) → waits_in same key queue ≡ false → without_waiting same key queue ≡ queue
  without_waiting-absent key [] out = refl
  without_waiting-absent key (x ∷ queue) out =
      let parts = or_parts (same key x) (waits_in same key queue) out in
      ap (λ b. cond b (x ∷ without_waiting same key queue) (without_waiting same key queue)) (not_from_false (same key x) parts.0)
      ∙ ap (λ rest. x ∷ rest) (without_waiting-absent key queue parts.1)

  -- the key at the front is taken out
  pub without_waiting-front : (key : K) (queue : List K) → AreOnce same (key ∷ queue) → without_waiting same key (key ∷ queue) ≡ queue
  without_waiting-front key queue once =
      ap (λ b. cond b (key ∷ without_waiting same key queue) (without_waiting same key queue)) (not_from_true (same key key) (laws.refl key))
      ∙ without_waiting-absent key queue once.0

module _ {K T : Type 0} (same : K → K → Bool) (key_of : T → K) (key : K) (rows : List T) (queue : List K) where
  pub put_in-missed : find_row same key_of key rows ≡ None → put_in same key_of key rows queue ≡ queue
  put_in-missed none = ap (λ o. cond (is_some o) (enqueued same key queue) queue) none

  pub put_in-waiting : (row : T) → find_row same key_of key rows ≡ Some row → waits_in same key queue ≡ true → put_in same key_of key rows queue ≡ queue
  put_in-waiting row found waits = ap (λ o. cond (is_some o) (enqueued same key queue) queue) found ∙ ap (λ b. cond b queue (queue ++ key ∷ [])) waits

  pub put_in-new : (row : T) → find_row same key_of key rows ≡ Some row → waits_in same key queue ≡ false → put_in same key_of key rows queue ≡ queue ++ key ∷ []
  put_in-new row found waits = ap (λ o. cond (is_some o) (enqueued same key queue) queue) found ∙ ap (λ b. cond b queue (queue ++ key ∷ [])) waits

module _ {K T : Type 0} (same : K → K → Bool) (laws : IsEquivalence same) (key_of : T → K) (key : K) (rows : List T) where
  turned-cons : (rest : List K) → AreOnce same (key ∷ rest) → HaveRows same key_of (key ∷ rest) rows
      → put_in same key_of key rows (without_waiting same key (key ∷ rest)) ≡ turned (key ∷ rest)
  unfolding turned
  turned-cons rest once have =
      let some = have key (ap (λ b. b || waits_in same key rest) (laws.refl key)) in
      ap (put_in same key_of key rows) (without_waiting-front same laws key rest once)
      ∙ ap (λ b. cond b (enqueued same key rest) rest) some
      ∙ ap (λ b. cond b rest (rest ++ key ∷ [])) once.0

  -- the key at the front, taken out and put in again, stands at the back
  pub turned-front : (queue : List K) → slice_get queue 0 ≡ Some key → AreOnce same queue → HaveRows same key_of queue rows
      → put_in same key_of key rows (without_waiting same key queue) ≡ turned queue
  turned-front queue first =
      let front = front-of queue key first in
      subst (λ (q : List K). AreOnce same q → HaveRows same key_of q rows → put_in same key_of key rows (without_waiting same key q) ≡ turned q)
      (sym front.1) (turned-cons front.0)

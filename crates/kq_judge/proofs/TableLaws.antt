-- Keys as the rows of a table: a key is the row of itself.
use Rattle.std.proofs.Common.{◌≡◌, Bool, true, false, cond, ◌||◌, List, [], ◌∷◌, Option, None, Some, refl, ap, ◌∙◌}
use Rattle.std.proofs.lemmas.Bool.{true≢false}
use Rattle.std.specs.Option.{is_some}
use Rattle.kq_model.specs.declared.key.Key.{Key}
use Rattle.kq_model.specs.Knote.{key_eq, has_key}
use Rattle.kq_model.proofs.KnoteLaws.{by_test}
use Rattle.kq_table.specs.Rows.{find_row}

abbrev found_at : Key → Option Key → Bool → Option Key
found_at x rest b = cond b (Some x) rest

module _ (same : Key → Key → Bool) (same_is : (a b : Key) → same a b ≡ key_eq a b) where
  pub find_row-has : (key : Key) (keys : List Key) → is_some (find_row same (λ (k : Key). k) key keys)
      ≡ has_key key keys
  unfolding find_row
  find_row-has key [] = refl
  find_row-has key (x ∷ keys) =
      ap (λ b. is_some (found_at x (find_row same (λ (k : Key). k) key keys) b)) (same_is key x)
      ∙ by_test (λ b. is_some (found_at x (find_row same (λ (k : Key). k) key keys) b) ≡ b || has_key key keys)
      (key_eq key x)
      (λ _. refl) (λ _. find_row-has key keys)

  pub find_row-none : (key : Key) (keys : List Key) → has_key key keys ≡ false
      → find_row same (λ (k : Key). k) key keys ≡ None
  find_row-none key keys absent =
      nothing (find_row same (λ (k : Key). k) key keys) (find_row-has key keys ∙ absent)
    where
      nothing : (o : Option Key) → is_some o ≡ false → o ≡ None
      nothing None none = refl
      nothing (Some x) none = absurd (true≢false none)

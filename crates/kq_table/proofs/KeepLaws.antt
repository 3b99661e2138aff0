-- A key that no row has: nothing is replaced, and nothing is taken out.
use Rattle.std.proofs.Common.{◌≡◌, Bool, cond, not, List, [], ◌∷◌, None, ap, ◌∙◌, refl}
use Rattle.std.specs.Cmp.{IsEquivalence}
use Rattle.kq_table.specs.Rows.{find_row, with_row, without_row}
use Rattle.kq_table.proofs.RowLaws.{find_row-head, find_row-tail}

module _ {K T : Type 0} (same : K → K → Bool) (key_of : T → K) (laws : IsEquivalence same) where
  pub with_row-absent : (row : T) (rows : List T) → find_row same key_of (key_of row) rows ≡ None → with_row same key_of row rows ≡ rows
  with_row-absent row [] absent = refl
  with_row-absent row (x ∷ rows) absent =
      ap (λ b. cond b row x ∷ with_row same key_of row rows) (find_row-head same key_of (key_of row) x rows absent)
      ∙ ap (λ rest. x ∷ rest) (with_row-absent row rows (find_row-tail same key_of (key_of row) x rows absent))

  pub without_row-absent : (gone : K) (rows : List T) → find_row same key_of gone rows ≡ None → without_row same key_of gone rows ≡ rows
  without_row-absent gone [] absent = refl
  without_row-absent gone (x ∷ rows) absent =
      ap (λ b. cond (not b) (x ∷ without_row same key_of gone rows) (without_row same key_of gone rows)) (find_row-head same key_of gone x rows absent)
      ∙ ap (λ rest. x ∷ rest) (without_row-absent gone rows (find_row-tail same key_of gone x rows absent))

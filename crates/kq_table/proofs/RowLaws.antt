-- Searching rows by a key: where it ends, and that keys that are the same find the same.
use Rattle.std.proofs.Common.{◌≡◌, Bool, true, false, cond, List, [], ◌∷◌, ◌++◌, Option, Some, None, sym, ap, ◌∙◌, refl}
use Rattle.std.proofs.lemmas.Option.{none-some}
use Rattle.kq_table.specs.Rows.{find_row}

-- a test that was made: the goal at its answer, with what it tells
pub by_test : (P : Bool → Type 0) (b : Bool) → (b ≡ true → P true) → (b ≡ false → P false) → P b
by_test P true at_true at_false = at_true refl
by_test P false at_true at_false = at_false refl

-- the first that was found, or else the second
abbrev pub found_or : {T : Type 0} → Option T → Option T → Option T
found_or (Some row) other = Some row
found_or None other = other

module _ {K T : Type 0} (same : K → K → Bool) (key_of : T → K) where
  abbrev pub found_at : K → T → List T → Bool → Option T
  found_at key row rows b = cond b (Some row) (find_row same key_of key rows)

  pub find_row-none : (key : K) → find_row same key_of key [] ≡ None
  unfolding find_row
  find_row-none key = refl

  pub find_row-cons : (key : K) (x : T) (rows : List T) → find_row same key_of key (x ∷ rows) ≡ found_at key x rows (same key (key_of x))
  unfolding find_row
  find_row-cons key x rows = refl

  pub find_row-here : (key : K) (x : T) (rows : List T) → same key (key_of x) ≡ true → find_row same key_of key (x ∷ rows) ≡ Some x
  find_row-here key x rows is = find_row-cons key x rows ∙ ap (found_at key x rows) is

  pub find_row-later : (key : K) (x : T) (rows : List T) → same key (key_of x) ≡ false → find_row same key_of key (x ∷ rows) ≡ find_row same key_of key rows
  find_row-later key x rows apart = find_row-cons key x rows ∙ ap (found_at key x rows) apart

  -- nothing of the key is at the head, or behind it, of rows where it is not found
  pub find_row-head : (key : K) (x : T) (rows : List T) → find_row same key_of key (x ∷ rows) ≡ None → same key (key_of x) ≡ false
  find_row-head key x rows e =
      by_test (λ b. found_at key x rows b ≡ None → b ≡ false) (same key (key_of x))
      (λ _ f. absurd (none-some x (sym f))) (λ _ _. refl) (sym (find_row-cons key x rows) ∙ e)

  pub find_row-tail : (key : K) (x : T) (rows : List T) → find_row same key_of key (x ∷ rows) ≡ None → find_row same key_of key rows ≡ None
  find_row-tail key x rows e = sym (find_row-later key x rows (find_row-head key x rows e)) ∙ e

  pub find_row-append : (key : K) (rows more : List T) → find_row same key_of key (rows ++ more) ≡ found_or (find_row same key_of key rows) (find_row same key_of key more)
  find_row-append key [] more = ap (λ found. found_or found (find_row same key_of key more)) (sym (find_row-none key))
  find_row-append key (x ∷ rows) more =
      find_row-cons key x (rows ++ more)
      ∙ by_test (λ b. found_at key x (rows ++ more) b ≡ found_or (found_at key x rows b) (find_row same key_of key more)) (same key (key_of x))
      (λ _. refl) (λ _. find_row-append key rows more)
      ∙ ap (λ found. found_or found (find_row same key_of key more)) (sym (find_row-cons key x rows))

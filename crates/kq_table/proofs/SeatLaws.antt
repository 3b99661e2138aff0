-- The rows that stand in slots: those of a list that is split, and what is found among them.
use Rattle.std.proofs.Common.{◌≡◌, ℕ, suc, Bool, true, false, cond, eqb, List, [], ◌∷◌, ◌++◌, length, Option, Some, None, slice_get, refl, sym, ap, ◌∙◌}
use Rattle.std.proofs.lemmas.Bool.{false≢true, or_right, false_from_ne_true}
use Rattle.std.specs.Cmp.{IsEquivalence}
use Rattle.kq_table.specs.Rows.{find_row, row_after, rows_behind, HaveOwnKeys}
use Rattle.kq_table.specs.Threads.{is_in, AreDistinct, before_rows, rows_at}
use Rattle.kq_table.specs.Kept.{AreApart}
use Rattle.kq_table.proofs.RowLaws.{found_or, find_row-none, find_row-here, find_row-later, find_row-head, find_row-tail, find_row-append}
use Rattle.kq_table.proofs.ThreadLaws.{is_in-here, in_left, in_right, AreDistinct-gone}

module _ {T : Type 0} where
  before_rows-append : (o : Option T) (rows more : List T) → before_rows o rows ++ more ≡ before_rows o (rows ++ more)
  before_rows-append None rows more = refl
  before_rows-append (Some row) rows more = refl

  pub rows_at-append : (rows : ℕ → Option T) (xs ys : List ℕ) → rows_at rows (xs ++ ys) ≡ rows_at rows xs ++ rows_at rows ys
  rows_at-append rows [] ys = refl
  rows_at-append rows (x ∷ xs) ys =
      ap (before_rows (rows x)) (rows_at-append rows xs ys) ∙ sym (before_rows-append (rows x) (rows_at rows xs) (rows_at rows ys))

  pub rows_at-same : (f g : ℕ → Option T) (xs : List ℕ) → ((t : ℕ) → is_in t xs ≡ true → g t ≡ f t) → rows_at g xs ≡ rows_at f xs
  rows_at-same f g [] same = refl
  rows_at-same f g (x ∷ xs) same =
      ap (λ o. before_rows o (rows_at g xs)) (same x (is_in-here x xs))
      ∙ ap (before_rows (f x)) (rows_at-same f g xs (λ t there. same t (or_right (eqb t x) (is_in t xs) there)))

  -- a list that is split at a slot
  pub rows_at-split : (rows : ℕ → Option T) (xs : List ℕ) (s : ℕ) (ys : List ℕ) (row : T) → rows s ≡ Some row → rows_at rows (xs ++ s ∷ ys) ≡ rows_at rows xs ++ row ∷ rows_at rows ys
  rows_at-split rows xs s ys row here =
      rows_at-append rows xs (s ∷ ys) ∙ ap (λ o. rows_at rows xs ++ before_rows o (rows_at rows ys)) here

  pub rows_at-push : (rows : ℕ → Option T) (xs : List ℕ) (s : ℕ) (row : T) → rows s ≡ Some row → rows_at rows (xs ++ s ∷ []) ≡ rows_at rows xs ++ row ∷ []
  rows_at-push rows xs s row here = rows_at-split rows xs s [] row here

  -- in each of the slots stands a row
  abbrev pub AreFilled : (ℕ → Option T) → List ℕ → Type 0
  AreFilled rows xs = (t : ℕ) → is_in t xs ≡ true → (row : T) × (rows t ≡ Some row)

  AreFilled-rest : (rows : ℕ → Option T) (x : ℕ) (xs : List ℕ) → AreFilled rows (x ∷ xs) → AreFilled rows xs
  AreFilled-rest rows x xs filled t there = filled t (or_right (eqb t x) (is_in t xs) there)

  pub length-rows_at : (rows : ℕ → Option T) (xs : List ℕ) → AreFilled rows xs → length (rows_at rows xs) ≡ length xs
  length-rows_at rows [] filled = refl
  length-rows_at rows (x ∷ xs) filled =
      let first = filled x (is_in-here x xs) in
      ap (λ o. length (before_rows o (rows_at rows xs))) first.1 ∙ ap suc (length-rows_at rows xs (AreFilled-rest rows x xs filled))

module _ {K T : Type 0} (same : K → K → Bool) (key_of : T → K) (laws : IsEquivalence same) (rows : ℕ → Option T) where
  -- in none of the slots stands a row of this key
  abbrev pub IsAway : K → List ℕ → Type 0
  IsAway key xs = (t : ℕ) (row : T) → is_in t xs ≡ true → rows t ≡ Some row → same key (key_of row) ≡ false

  find_row-before : (key : K) (o : Option T) (more : List T) → ((row : T) → o ≡ Some row → same key (key_of row) ≡ false) → find_row same key_of key more ≡ None → find_row same key_of key (before_rows o more) ≡ None
  find_row-before key None more away none = none
  find_row-before key (Some row) more away none = find_row-later same key_of key row more (away row refl) ∙ none

  pub find_row-away : (key : K) (xs : List ℕ) → IsAway key xs → find_row same key_of key (rows_at rows xs) ≡ None
  find_row-away key [] away = find_row-none same key_of key
  find_row-away key (x ∷ xs) away =
      find_row-before key (rows x) (rows_at rows xs) (λ row here. away x row (is_in-here x xs) here)
      (find_row-away key xs (λ t row there here. away t row (or_right (eqb t x) (is_in t xs) there) here))

  -- rows that are told apart by their keys at one of them
  pub record IsParted (key : K) (row : T) (before behind all : List T) : Type 0 where
    pub all_is : all ≡ before ++ row ∷ behind
    pub none_before : find_row same key_of key before ≡ None

  away-from : (key : K) (s : ℕ) (row : T) (all xs : List ℕ) → AreApart same key_of rows all → is_in s all ≡ true → rows s ≡ Some row → same key (key_of row) ≡ true
      → ((t : ℕ) → is_in t xs ≡ true → is_in t all ≡ true) → is_in s xs ≡ false → IsAway key xs
  away-from key s row all xs apart there here key_is within out t r in_xs at =
      false_from_ne_true (same key (key_of r)) (λ is.
      let one : s ≡ t = apart s t row r there (within t in_xs) here at (laws.congr (key_of row) key (key_of r) (laws.symm (key_of row) key ∙ key_is) ∙ is) in
      false≢true (sym out ∙ ap (λ n. is_in n xs) one ∙ in_xs))

  pub parted : (key : K) (s : ℕ) (row : T) (xs ys : List ℕ) → AreDistinct (xs ++ s ∷ ys) → AreApart same key_of rows (xs ++ s ∷ ys) → rows s ≡ Some row → same key (key_of row) ≡ true
      → IsParted key row (rows_at rows xs) (rows_at rows ys) (rows_at rows (xs ++ s ∷ ys))
  parted key s row xs ys distinct apart here key_is =
      let gone = AreDistinct-gone xs s ys distinct in
      let there = in_right s xs (s ∷ ys) (is_in-here s ys) in
      record {
        all_is = rows_at-split rows xs s ys row here;
        none_before = find_row-away key xs (away-from key s row (xs ++ s ∷ ys) xs apart there here key_is (λ t in_xs. in_left t xs (s ∷ ys) in_xs) gone.0);
      }

module _ {K T : Type 0} (same : K → K → Bool) (key_of : T → K) (laws : IsEquivalence same) where
  -- ---- at a row between others that are of other keys

  pub find_row-parted : (key : K) (row : T) (before behind : List T) → find_row same key_of key before ≡ None → same key (key_of row) ≡ true → find_row same key_of key (before ++ row ∷ behind) ≡ Some row
  find_row-parted key row before behind none is =
      find_row-append same key_of key before (row ∷ behind)
      ∙ ap (λ found. found_or found (find_row same key_of key (row ∷ behind))) none
      ∙ find_row-here same key_of key row behind is

  head_away : (key : K) (x : T) (rows : List T) → find_row same key_of key (x ∷ rows) ≡ None → (same key (key_of x) ≡ false) × (find_row same key_of key rows ≡ None)
  head_away key x rows none = (find_row-head same key_of key x rows none, find_row-tail same key_of key x rows none)

  pub row_after-parted : (key : K) (row : T) (before behind : List T) → find_row same key_of key before ≡ None → same key (key_of row) ≡ true → row_after same key_of key (before ++ row ∷ behind) ≡ slice_get behind 0
  unfolding row_after
  row_after-parted key row [] behind none is = ap (λ b. cond b (slice_get behind 0) (row_after same key_of key behind)) is
  row_after-parted key row (x ∷ before) behind none is =
      let away = head_away key x before none in
      ap (λ b. cond b (slice_get (before ++ row ∷ behind) 0) (row_after same key_of key (before ++ row ∷ behind))) away.0
      ∙ row_after-parted key row before behind away.1 is

  pub row_after-away : (key : K) (rows : List T) → find_row same key_of key rows ≡ None → row_after same key_of key rows ≡ None
  unfolding row_after
  row_after-away key [] none = refl
  row_after-away key (x ∷ rows) none =
      let away = head_away key x rows none in
      ap (λ b. cond b (slice_get rows 0) (row_after same key_of key rows)) away.0 ∙ row_after-away key rows away.1

  pub rows_behind-parted : (key : K) (row : T) (before behind : List T) → find_row same key_of key before ≡ None → same key (key_of row) ≡ true → rows_behind same key_of key (before ++ row ∷ behind) ≡ behind
  unfolding rows_behind
  rows_behind-parted key row [] behind none is = ap (λ b. cond b behind (rows_behind same key_of key behind)) is
  rows_behind-parted key row (x ∷ before) behind none is =
      let away = head_away key x before none in
      ap (λ b. cond b (before ++ row ∷ behind) (rows_behind same key_of key (before ++ row ∷ behind))) away.0
      ∙ rows_behind-parted key row before behind away.1 is

  -- rows in slots of different keys have their own keys
  pub HaveOwnKeys-at : (rows : ℕ → Option T) (xs : List ℕ) → AreDistinct xs → AreApart same key_of rows xs → HaveOwnKeys same key_of (rows_at rows xs)
  HaveOwnKeys-at rows [] distinct apart = tt
  HaveOwnKeys-at rows (x ∷ xs) distinct apart =
      own (rows x) refl
      (HaveOwnKeys-at rows xs distinct.1 (λ a b r s in_a in_b here there is. apart a b r s (or_right (eqb a x) (is_in a xs) in_a) (or_right (eqb b x) (is_in b xs) in_b) here there is))
    where
      own : (o : Option T) → rows x ≡ o → HaveOwnKeys same key_of (rows_at rows xs) → HaveOwnKeys same key_of (before_rows o (rows_at rows xs))
      own None at rest = rest
      own (Some row) at rest = (
        find_row-away same key_of laws rows (key_of row) xs (λ t r in_xs here. false_from_ne_true (same (key_of row) (key_of r)) (λ is.
            let one : x ≡ t = apart x t row r (is_in-here x xs) (or_right (eqb t x) (is_in t xs) in_xs) at here is in
            false≢true (sym distinct.0 ∙ ap (λ n. is_in n xs) one ∙ in_xs))),
        rest,
      )

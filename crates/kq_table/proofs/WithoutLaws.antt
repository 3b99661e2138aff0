-- Lists of slots without one of them.
use Rattle.std.proofs.Common.{◌≡◌, ℕ, ◌+◌, ◌≤◌, Bool, true, false, cond, not, eqb, List, [], ◌∷◌, ◌++◌, filter, length, Option, Some, inl, inr, length-append, refl, sym, ap, ◌∙◌, subst, arith}
use Rattle.std.proofs.lemmas.Bool.{false≢true, eqb-true, or_cases, or_parts, or_left, or_right, not_from_false, not-true, false_from_ne_true}
use Rattle.kq_table.specs.declared.node.Ends.{Ends}
use Rattle.kq_table.specs.declared.node.Links.{Links}
use Rattle.kq_table.specs.Threads.{is_in, AreDistinct, without_slot, IsThread, passed_over, ends_past, before_rows, rows_at}
use Rattle.kq_table.specs.Kept.{AreBorn}
use Rattle.kq_table.proofs.RowLaws.{by_test}
use Rattle.kq_table.proofs.SeatLaws.{AreFilled}
use Rattle.kq_table.proofs.ThreadLaws.{eqb-refl, apart-sym, is_in-here, apart-in, at_split, AreDistinct-gone, IsThread-past, passed_over-away}

abbrev kept : {X : Type 0} → X → List X → Bool → List X
kept x rest b = cond b (x ∷ rest) rest

-- what is kept was there
pub in_filter : (p : ℕ → Bool) (xs : List ℕ) (t : ℕ) → is_in t (filter p xs) ≡ true → (is_in t xs ≡ true) × (p t ≡ true)
in_filter p [] t there = absurd (false≢true there)
in_filter p (x ∷ xs) t there =
    by_test (λ b. p x ≡ b → is_in t (kept x (filter p xs) b) ≡ true → (is_in t (x ∷ xs) ≡ true) × (p t ≡ true)) (p x)
    (λ _ is here. elim (or_cases (eqb t x) (is_in t (filter p xs)) here) [
      | inl first ↦ (or_left (eqb t x) (is_in t xs) first, ap p (eqb-true t x first) ∙ is)
      | inr later ↦ let rest = in_filter p xs t later in (or_right (eqb t x) (is_in t xs) rest.0, rest.1)
    ])
    (λ _ _ here. let rest = in_filter p xs t here in (or_right (eqb t x) (is_in t xs) rest.0, rest.1)) refl there

-- what was there and passes is kept
pub in_filter-from : (p : ℕ → Bool) (xs : List ℕ) (t : ℕ) → is_in t xs ≡ true → p t ≡ true → is_in t (filter p xs) ≡ true
in_filter-from p [] t there pass = absurd (false≢true there)
in_filter-from p (x ∷ xs) t there pass =
    elim (or_cases (eqb t x) (is_in t xs) there) [
      | inl first ↦ ap (λ b. is_in t (kept x (filter p xs) b)) (ap p (sym (eqb-true t x first)) ∙ pass) ∙ or_left (eqb t x) (is_in t (filter p xs)) first
      | inr later ↦ by_test (λ b. is_in t (kept x (filter p xs) b) ≡ true) (p x)
          (λ _. or_right (eqb t x) (is_in t (filter p xs)) (in_filter-from p xs t later pass)) (λ _. in_filter-from p xs t later pass)
    ]

-- what does not pass is not kept
pub out_of-filter : (p : ℕ → Bool) (xs : List ℕ) (t : ℕ) → p t ≡ false → is_in t (filter p xs) ≡ false
out_of-filter p xs t fails =
    false_from_ne_true (is_in t (filter p xs)) (λ there. false≢true (sym fails ∙ (in_filter p xs t there).1))

-- tests that agree keep the same
pub filter-same : (p q : ℕ → Bool) (xs : List ℕ) → ((t : ℕ) → is_in t xs ≡ true → p t ≡ q t) → filter p xs ≡ filter q xs
filter-same p q [] same = refl
filter-same p q (x ∷ xs) same =
    ap (kept x (filter p xs)) (same x (is_in-here x xs))
    ∙ ap (λ rest. kept x rest (q x)) (filter-same p q xs (λ t there. same t (or_right (eqb t x) (is_in t xs) there)))

pub filter-append : (p : ℕ → Bool) (xs ys : List ℕ) → filter p (xs ++ ys) ≡ filter p xs ++ filter p ys
filter-append p [] ys = refl
filter-append p (x ∷ xs) ys =
    by_test (λ b. kept x (filter p (xs ++ ys)) b ≡ kept x (filter p xs) b ++ filter p ys) (p x)
    (λ _. ap (λ rest. x ∷ rest) (filter-append p xs ys)) (λ _. filter-append p xs ys)

pub AreDistinct-filter : (p : ℕ → Bool) (xs : List ℕ) → AreDistinct xs → AreDistinct (filter p xs)
AreDistinct-filter p [] d = tt
AreDistinct-filter p (x ∷ xs) d =
    by_test (λ b. AreDistinct (kept x (filter p xs) b)) (p x)
    (λ _. (false_from_ne_true (is_in x (filter p xs)) (λ there. false≢true (sym d.0 ∙ (in_filter p xs x there).0)), AreDistinct-filter p xs d.1))
    (λ _. AreDistinct-filter p xs d.1)

-- ---- without one

pub without-absent : (s : ℕ) (xs : List ℕ) → is_in s xs ≡ false → without_slot s xs ≡ xs
without-absent s [] out = refl
without-absent s (x ∷ xs) out =
    let parts = or_parts (eqb s x) (is_in s xs) out in
    ap (λ b. kept x (without_slot s xs) (not b)) (apart-sym s x parts.0)
    ∙ ap (λ rest. x ∷ rest) (without-absent s xs parts.1)

pub without-split : (s : ℕ) (xs ys : List ℕ) → is_in s xs ≡ false → is_in s ys ≡ false → without_slot s (xs ++ s ∷ ys) ≡ xs ++ ys
without-split s [] ys out behind = ap (λ b. kept s (without_slot s ys) (not b)) (eqb-refl s) ∙ without-absent s ys behind
without-split s (x ∷ xs) ys out behind =
    let parts = or_parts (eqb s x) (is_in s xs) out in
    ap (λ b. kept x (without_slot s (xs ++ s ∷ ys)) (not b)) (apart-sym s x parts.0)
    ∙ ap (λ rest. x ∷ rest) (without-split s xs ys parts.1 behind)

pub without-in : (s t : ℕ) (xs : List ℕ) → is_in t (without_slot s xs) ≡ true → (is_in t xs ≡ true) × (eqb t s ≡ false)
without-in s t xs there =
    let both = in_filter (λ t. not (eqb t s)) xs t there in (both.0, not-true (eqb t s) both.1)

pub without-in_from : (s t : ℕ) (xs : List ℕ) → is_in t xs ≡ true → eqb t s ≡ false → is_in t (without_slot s xs) ≡ true
without-in_from s t xs there apart = in_filter-from (λ t. not (eqb t s)) xs t there (not_from_false (eqb t s) apart)

pub without-gone : (s : ℕ) (xs : List ℕ) → is_in s (without_slot s xs) ≡ false
without-gone s xs = out_of-filter (λ t. not (eqb t s)) xs s (ap not (eqb-refl s))

pub length-without : (s : ℕ) (xs : List ℕ) → AreDistinct xs → is_in s xs ≡ true → length (without_slot s xs) + 1 ≡ length xs
length-without s xs distinct there =
    at_split (λ l. AreDistinct l → length (without_slot s l) + 1 ≡ length l) s xs there
    (λ before behind d.
    let gone = AreDistinct-gone before s behind d in
    let whole = ap length (without-split s before behind gone.0 gone.1) in
    let fewer = length-append before behind in
    let all = length-append before (s ∷ behind) in
    omega arith) distinct

-- a thread without one of its slots
pub IsThread-without : (f : ℕ → Option Links) (e : Ends) (l : List ℕ) (s : ℕ) → IsThread f e l → is_in s l ≡ true → IsThread (passed_over (f s) f) (ends_past (f s) e) (without_slot s l)
IsThread-without f e l s is there =
    at_split (λ l. IsThread f e l → IsThread (passed_over (f s) f) (ends_past (f s) e) (without_slot s l)) s l there
    (λ xs ys thread.
    let gone = AreDistinct-gone xs s ys thread.distinct in
    subst (λ l. IsThread (passed_over (f s) f) (ends_past (f s) e) l) (sym (without-split s xs ys gone.0 gone.1)) (IsThread-past f e xs s ys thread)) is

-- distinct slots of a list are no more than it has
pub length-within : (xs ys : List ℕ) → AreDistinct xs → ((t : ℕ) → is_in t xs ≡ true → is_in t ys ≡ true) → AreDistinct ys → length xs ≤ length ys
length-within [] ys distinct within own = omega arith
length-within (x ∷ xs) ys distinct within own =
    let fewer = length-without x ys own (within x (is_in-here x xs)) in
    let rest = length-within xs (without_slot x ys) distinct.1
    (λ t there. without-in_from x t ys (within t (or_right (eqb t x) (is_in t xs) there)) (apart-in x t xs distinct.0 there))
    (AreDistinct-filter (λ t. not (eqb t x)) ys own) in
    omega arith

-- ---- the rows

module _ {T : Type 0} (rows : ℕ → Option T) (p : ℕ → Bool) (q : T → Bool) where
  pub rows_at-filter : (xs : List ℕ) → ((t : ℕ) (row : T) → is_in t xs ≡ true → rows t ≡ Some row → q row ≡ p t) → AreFilled rows xs → rows_at rows (filter p xs) ≡ filter q (rows_at rows xs)
  rows_at-filter [] agree filled = refl
  rows_at-filter (x ∷ xs) agree filled =
      let first = filled x (is_in-here x xs) in
      let rest = rows_at-filter xs (λ t row there here. agree t row (or_right (eqb t x) (is_in t xs) there) here) (λ t there. filled t (or_right (eqb t x) (is_in t xs) there)) in
      by_test (λ b. rows_at rows (kept x (filter p xs) b) ≡ kept first.0 (filter q (rows_at rows xs)) b) (p x)
      (λ _. ap (λ o. before_rows o (rows_at rows (filter p xs))) first.1 ∙ ap (λ more. first.0 ∷ more) rest)
      (λ _. rest)
      ∙ ap (kept first.0 (filter q (rows_at rows xs))) (sym (agree x first.0 (is_in-here x xs) first.1))
      ∙ ap (λ o. filter q (before_rows o (rows_at rows xs))) (sym first.1)

-- ---- births

pub AreBorn-lower : (births : ℕ → Option ℕ) (low high next : ℕ) (xs : List ℕ) → low ≤ high → AreBorn births high next xs → AreBorn births low next xs
AreBorn-lower births low high next [] below born = omega arith
AreBorn-lower births low high next (x ∷ xs) below born = (born.0, born.1, omega (arith, born.2), born.3)

pub AreBorn-higher : (births : ℕ → Option ℕ) (low next more : ℕ) (xs : List ℕ) → next ≤ more → AreBorn births low next xs → AreBorn births low more xs
AreBorn-higher births low next more [] below born = omega arith
AreBorn-higher births low next more (x ∷ xs) below born = (born.0, born.1, born.2, AreBorn-higher births (born.0 + 1) next more xs below born.3)

pub AreBorn-filter : (births : ℕ → Option ℕ) (low next : ℕ) (p : ℕ → Bool) (xs : List ℕ) → AreBorn births low next xs → AreBorn births low next (filter p xs)
AreBorn-filter births low next p [] born = born
AreBorn-filter births low next p (x ∷ xs) born =
    let rest = AreBorn-filter births (born.0 + 1) next p xs born.3 in
    by_test (λ b. AreBorn births low next (kept x (filter p xs) b)) (p x)
    (λ _. (born.0, born.1, born.2, rest))
    (λ _. AreBorn-lower births low (born.0 + 1) next (filter p xs) (omega (arith, born.2)) rest)

pub AreBorn-same : (f g : ℕ → Option ℕ) (low next : ℕ) (xs : List ℕ) → ((t : ℕ) → is_in t xs ≡ true → g t ≡ f t) → AreBorn f low next xs → AreBorn g low next xs
AreBorn-same f g low next [] same born = born
AreBorn-same f g low next (x ∷ xs) same born =
    (born.0, same x (is_in-here x xs) ∙ born.1, born.2, AreBorn-same f g (born.0 + 1) next xs (λ t there. same t (or_right (eqb t x) (is_in t xs) there)) born.3)

pub AreBorn-push : (births : ℕ → Option ℕ) (low next : ℕ) (xs : List ℕ) (s : ℕ) → AreBorn births low next xs → births s ≡ Some next → AreBorn births low (next + 1) (xs ++ s ∷ [])
AreBorn-push births low next [] s born here = (next, here, born, omega arith)
AreBorn-push births low next (x ∷ xs) s born here = (born.0, born.1, born.2, AreBorn-push births (born.0 + 1) next xs s born.3 here)

-- elsewhere nothing changes where a slot is passed over
pub passed_over-others : (f : ℕ → Option Links) (e : Ends) (l : List ℕ) (s t : ℕ) → IsThread f e l → is_in s l ≡ true → is_in t l ≡ false → passed_over (f s) f t ≡ f t
passed_over-others f e l s t is there out =
    at_split (λ l. IsThread f e l → is_in t l ≡ false → passed_over (f s) f t ≡ f t) s l there
    (λ xs ys thread away. passed_over-away f e xs s ys thread t away) is out

-- How a share grows with the list, and that all shares together are the list.
use Rattle.std.proofs.Common.{◌≡◌, ◌≢◌, ℕ, zero, suc, ◌+◌, ◌%◌, ◌==◌, ◌<◌, ◌≤◌, cond, List, [], ◌∷◌}
use Rattle.std.proofs.Common.{◌++◌, length, take, get_or, sum_by, refl, ap, sym, ◌∙◌, arith}
use Rattle.std.proofs.Common.{ne_eqb, eq-eqb}
use Rattle.std.proofs.lemmas.List.{append-nil}
use Rattle.std.proofs.lemmas.List.Elements.{filter_more}
use Rattle.std.proofs.lemmas.List.Sums.{sum_by-append, sum_by-cons}
use mathlib.Core.Logic.{dite}
use native.Mathlib.Decide.{ℕ_discrete}
use Rattle.kq_serve.specs.Shares.{share, shares}

module _ {S : Type 0} (owner : S → ℕ) (n : ℕ) where
  -- a step of the thread is the next of its share
  pub share_takes : (t : ℕ) (steps : List S) (i : ℕ) (x : S) → i < length steps
      → x ≡ get_or steps i x → owner x % n ≡ t
      → share owner n t (take (i + 1) steps) ≡ share owner n t (take i steps) ++ x ∷ []
  share_takes t steps i x inside at mine =
      let before = share owner n t (take i steps) in
      filter_more (λ (s : S). owner s % n == t) steps i x inside
      ∙ (ap (λ (z : S). before ++ cond (owner z % n == t) (z ∷ []) []) (sym at)
      ∙ ap (λ b. before ++ cond b (x ∷ []) []) (eq-eqb (owner x % n) t mine))

  -- a step of another thread is not in it
  pub share_skips : (t : ℕ) (steps : List S) (i : ℕ) (x : S) → i < length steps
      → x ≡ get_or steps i x → owner x % n ≢ t
      → share owner n t (take (i + 1) steps) ≡ share owner n t (take i steps)
  share_skips t steps i x inside at other =
      let before = share owner n t (take i steps) in
      filter_more (λ (s : S). owner s % n == t) steps i x inside
      ∙ (ap (λ (z : S). before ++ cond (owner z % n == t) (z ∷ []) []) (sym at)
      ∙ (ap (λ b. before ++ cond b (x ∷ []) []) (ne_eqb (owner x % n) t other) ∙ append-nil before))

  next_in : (t : ℕ) (x : S) (xs : List S) → owner x % n ≡ t
      → length (share owner n t (x ∷ xs)) ≡ length (share owner n t xs) + 1
  next_in t x xs e =
      ap (λ b. length (cond b (x ∷ share owner n t xs) (share owner n t xs)))
      (eq-eqb (owner x % n) t e) ∙ omega arith

  next_out : (t : ℕ) (x : S) (xs : List S) → owner x % n ≢ t
      → length (share owner n t (x ∷ xs)) ≡ length (share owner n t xs)
  next_out t x xs ne =
      ap (λ b. length (cond b (x ∷ share owner n t xs) (share owner n t xs)))
      (ne_eqb (owner x % n) t ne)

  -- how many steps the first k threads have
  abbrev total : ℕ → List S → ℕ
  total k steps = sum_by length (shares owner n k steps)

  total_next : (k : ℕ) (steps : List S)
      → total (suc k) steps ≡ total k steps + length (share owner n k steps)
  total_next k steps =
      sum_by-append length (shares owner n k steps) (share owner n k steps ∷ [])
      ∙ omega (arith, sum_by-cons length (share owner n k steps) [])

  total_above : (k : ℕ) (x : S) (xs : List S) → k ≤ owner x % n → total k (x ∷ xs) ≡ total k xs
  total_above zero x xs le = refl
  total_above (suc k) x xs le =
      let before = total_above k x xs (omega arith) in
      let out = next_out k x xs (λ e. omega arith) in
      let all = total_next k (x ∷ xs) in let less = total_next k xs in omega arith

  total_below : (k : ℕ) (x : S) (xs : List S) → owner x % n < k
      → total k (x ∷ xs) ≡ total k xs + 1
  total_below zero x xs lt = absurd (omega arith)
  total_below (suc k) x xs lt = dite (ℕ_discrete (owner x % n) k)
      (λ e.
      let before = total_above k x xs (omega arith) in let mine = next_in k x xs e in
      let all = total_next k (x ∷ xs) in let less = total_next k xs in omega arith)
      (λ ne.
      let before = total_below k x xs (omega arith) in let out = next_out k x xs ne in
      let all = total_next k (x ∷ xs) in let less = total_next k xs in omega arith)

  total_none : (k : ℕ) → total k [] ≡ 0
  total_none zero = refl
  total_none (suc k) = let before = total_none k in let all = total_next k [] in omega arith

  -- the shares of all threads have as many steps as the list
  pub total_all : (steps : List S) → 0 < n → sum_by length (shares owner n n steps) ≡ length steps
  total_all [] some = total_none n
  total_all (x ∷ xs) some =
      let rest = total_all xs some in let next = total_below n x xs (omega arith) in omega arith

-- Histories that grow by a call.
use Rattle.std.proofs.Common.{◌≡◌, ◌≢◌, ◌==◌, ℕ, List, [], ◌∷◌, ◌++◌, cond, refl, ap, sym, ◌∙◌}
use Rattle.std.proofs.Common.{subst, eq-eqb, ne_eqb}
use Rattle.std.proofs.lemmas.List.{append-nil}
use Rattle.std.proofs.lemmas.List.Elements.{filter-append}
use mathlib.Core.List.{IsPrefix, map-append}
use Rattle.kq_lock.specs.declared.entry.Entry.{Entry}
use Rattle.kq_lock.specs.declared.view.Call.{Call}
use Rattle.kq_lock.specs.Calls.{entry_of, plain, call_of, calls_by, Each, Leads}
use Rattle.kq_lock.proofs.Beginnings.{prefix_between}

module _ {S A : Type 0} where
  -- what begins a list keeps its place among the calls with one number
  pub calls_begin : (n : ℕ) (xs ys : List (Call S A)) → IsPrefix xs ys
      → IsPrefix (calls_by n xs) (calls_by n ys)
  calls_begin n xs ys p = (
    calls_by n (p.0),
    sym
        (filter-append (λ (c : Call S A). c.number == n) xs p.0) ∙ ap (calls_by n) p.1,
  )

  -- where no call with the number n lies between xs and zs, none lies between xs and ys
  pub calls_between : (n : ℕ) (xs ys zs : List (Call S A)) → IsPrefix xs ys → IsPrefix ys zs
      → calls_by n zs ≡ calls_by n xs → calls_by n ys ≡ calls_by n xs
  calls_between n xs ys zs p q e = prefix_between (calls_by n xs) (calls_by n ys) (calls_by n zs)
      (calls_begin n xs ys p) (calls_begin n ys zs q) e

  pub calls_same : (n : ℕ) (xs : List (Call S A)) (c : Call S A) → c.number ≡ n
      → calls_by n (xs ++ c ∷ []) ≡ calls_by n xs ++ c ∷ []
  calls_same n xs c e = filter-append (λ (c : Call S A). c.number == n) xs (c ∷ [])
      ∙ ap (λ b. calls_by n xs ++ cond b (c ∷ []) []) (eq-eqb c.number n e)

  pub calls_other : (n : ℕ) (xs : List (Call S A)) (c : Call S A) → c.number ≢ n
      → calls_by n (xs ++ c ∷ []) ≡ calls_by n xs
  calls_other n xs c e = filter-append (λ (c : Call S A). c.number == n) xs (c ∷ [])
      ∙ (ap (λ b. calls_by n xs ++ cond b (c ∷ []) []) (ne_eqb c.number n e)
      ∙ append-nil (calls_by n xs))

  pub plain_more : (xs : List (Call S A)) (n : ℕ) (e : Entry S A)
      → plain (xs ++ call_of n e ∷ []) ≡ plain xs ++ e ∷ []
  plain_more xs n e = map-append entry_of xs (call_of n e ∷ [])

  pub each_more : (P : Call S A → Type 0) (xs : List (Call S A)) (c : Call S A) → Each P xs → P c
      → Each P (xs ++ c ∷ [])
  each_more P [] c h p = (p, tt)
  each_more P (x ∷ xs) c h p = (h.0, each_more P xs c h.1 p)

  pub each_of : (P Q : Call S A → Type 0) → ((c : Call S A) → P c → Q c) → (xs : List (Call S A))
      → Each P xs → Each Q xs
  each_of P Q f [] h = tt
  each_of P Q f (x ∷ xs) h = (f x h.0, each_of P Q f xs h.1)

  -- a history that leads to v, and a step from v, are a history
  pub leads_more : {M : Type 0} (leads : M → S → A → M → Type 0) (o v w : M) (xs : List (Call S A))
      (c : Call S A) → Leads leads o xs v → leads v c.step c.answer w
      → Leads leads o (xs ++ c ∷ []) w
  leads_more {M} leads o v w [] c h l = (
    w,
    (subst (λ (z : M). leads z c.step c.answer w) (sym h) l),
    refl,
  )
  leads_more leads o v w (x ∷ xs) c h l = (h.0, h.1, leads_more leads h.0 v w xs c h.2 l)

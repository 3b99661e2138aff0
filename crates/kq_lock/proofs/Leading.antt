-- Histories that are cut in two, or followed by the values of another machine.
use Rattle.std.proofs.Common.{◌≡◌, ℕ, ◌+◌, ◌<◌, ◌≤◌, List, [], ◌∷◌, ◌++◌, length, refl, ap, sym, ◌∙◌, subst}
use Rattle.std.proofs.Common.{arith, length-append}
use mathlib.Core.List.{IsPrefix}
use Rattle.kq_lock.specs.declared.view.Call.{Call}
use Rattle.kq_lock.specs.Calls.{calls_by, call_of, Leads, Grows}
use Rattle.kq_lock.specs.Seats.{Seated, Called}
use Rattle.kq_lock.proofs.Beginnings.{prefix_length, prefix_whole}

module _ {M S A : Type 0} (leads : M → S → A → M → Type 0) where
  -- a history of two parts leads through a value between them
  pub leads_cut : (o w : M) (xs ys : List (Call S A)) → Leads leads o (xs ++ ys) w
      → (u : M) × Leads leads o xs u × Leads leads u ys w
  leads_cut o w [] ys h = (o, refl, h)
  leads_cut o w (x ∷ xs) ys h =
      let rest = leads_cut h.0 w xs ys h.2 in (rest.0, (h.0, h.1, rest.1), rest.2)

  -- Two histories one after the other are a history.
  pub leads_on : (o u w : M) (xs ys : List (Call S A)) → Leads leads o xs u → Leads leads u ys w
      → Leads leads o (xs ++ ys) w
  leads_on o u w [] ys h t = subst (λ (z : M). Leads leads z ys w) (sym h) t
  leads_on o u w (x ∷ xs) ys h t = (h.0, h.1, leads_on h.0 u w xs ys h.2 t)

  -- Where each step of the machine is one of another machine whose value stands beside it, the other
  -- machine has the same history.
  pub leads_beside : {N : Type 0} (steps : N → S → A → N → Type 0) (Beside : M → N → Type 0)
      → ((v w : M) (s : S) (a : A) (x : N) → leads v s a w → Beside v x
      → (y : N) × steps x s a y × Beside w y)
      → (o w : M) (x : N) (log : List (Call S A)) → Leads leads o log w → Beside o x
      → (y : N) × Leads steps x log y × Beside w y
  leads_beside steps Beside follow o w x [] h b =
      (x, refl, subst (λ (z : _). Beside z x) h b)
  leads_beside steps Beside follow o w x (c ∷ cs) h b =
      let next = follow o h.0 c.step c.answer x h.1 b in
      let rest = leads_beside steps Beside follow h.0 w next.0 cs h.2 next.2 in
      (rest.0, (next.0, next.1, rest.1), rest.2)

module _ {S A N : Type 0} (reply : N → S → A) (next : N → S → N) where
  -- each answer is the reply of the value that the calls before left
  abbrev pub AreReplies : N → List (Call S A) → Type 0
  AreReplies x [] = Unit {0}
  AreReplies x (c ∷ cs) = (c.answer ≡ reply x c.step) × AreReplies (next x c.step) cs

  -- the value after the calls
  abbrev pub value_after : N → List (Call S A) → N
  value_after x [] = x
  value_after x (c ∷ cs) = value_after (next x c.step) cs

  -- Where each step of a machine answers the reply of a function's value that stands beside it, the
  -- answers of a history are the replies of the function.
  pub leads_replies : {M : Type 0} (leads : M → S → A → M → Type 0) (Beside : M → N → Type 0)
      → ((v w : M) (s : S) (a : A) (x : N) → leads v s a w → Beside v x
      → (a ≡ reply x s) × Beside w (next x s))
      → (o w : M) (x : N) (log : List (Call S A)) → Leads leads o log w → Beside o x
      → AreReplies x log × Beside w (value_after x log)
  leads_replies leads Beside follow o w x [] h b = (tt, subst (λ (z : _). Beside z x) h b)
  leads_replies leads Beside follow o w x (c ∷ cs) h b =
      let step = follow o h.0 c.step c.answer x h.1 b in
      let rest = leads_replies leads Beside follow h.0 w (next x c.step) cs h.2 step.1 in
      ((step.0, rest.0), rest.1)

module _ {M S A : Type 0} where
  -- a call is behind all that its seat had seen
  pub called_longer : (leads : M → S → A → M → Type 0) (v w : Seated M S A) (step : S) (at : ℕ)
      (answer : A) (seen_len : ℕ) → Called leads v w step at answer seen_len → seen_len < at
  called_longer leads v w step at answer seen_len h =
      let c : Call S A = call_of v.number (record { step = step; answer = answer }) in
      let fits = prefix_length v.seen w.seen h.grows.begins in
      let more = ap length h.grows.own ∙ length-append (calls_by v.number v.seen) (c ∷ []) in
      let whole : length w.seen ≤ length v.seen → ⊥ = λ le.
      let same = prefix_whole v.seen w.seen h.grows.begins le in
      let none = ap (λ (l : List (Call S A)). length (calls_by v.number l)) same in omega arith in
      let place = h.place in let shorter = h.shorter in omega arith

-- What threads have done once their seats are joined.
use Rattle.std.proofs.Common.{◌≡◌, ℕ, suc, List, [], ◌∷◌, ◌++◌, length, refl}
use Rattle.std.proofs.Common.{ap, sym, ◌∙◌, subst, arith}
use mathlib.Core.List.{IsPrefix, map-append}
use Rattle.kq_lock.specs.declared.view.Call.{Call}
use Rattle.kq_lock.specs.Calls.{calls_by, call_of}
use Rattle.kq_lock.specs.Seats.{Seated, own_calls, Called}
use Rattle.kq_lock.proofs.Beginnings.{prefix_self, prefix_trans}
use Rattle.kq_lock.proofs.Logs.{calls_begin}
use Rattle.kq_serve.specs.Shares.{share, shares, steps_of, HasServed, AreServed}

module _ {S A : Type 0} where
  pub steps_begin : (n : ℕ) (xs ys : List (Call S A)) → IsPrefix xs ys
      → IsPrefix (steps_of (calls_by n xs)) (steps_of (calls_by n ys))
  steps_begin n xs ys p = let q = calls_begin n xs ys p in
      (steps_of q.0, sym (map-append (λ (d : Call S A). d.step) (calls_by n xs) q.0) ∙ ap steps_of q.1)

module _ {M S A : Type 0} where
  -- one call more
  pub served_more : (leads : M → S → A → M → Type 0) (v w w' : Seated M S A) (done more : List S)
      (step : S) (at : ℕ) (answer : A) (seen_len : ℕ) → HasServed v w done
      → Called leads w w' step at answer seen_len → more ≡ done ++ step ∷ [] → HasServed v w' more
  served_more leads v w w' done more step at answer seen_len h made is =
      let c : Call S A = call_of w.number (record { step = step; answer = answer }) in
      let number : w'.number ≡ w.number = ap (λ (z : Seated M S A). z.number) made.same in
      let calls : own_calls w' ≡ own_calls w ++ c ∷ [] =
      ap (λ (n : ℕ). calls_by n w'.seen) number ∙ made.grows.own in record {
        lock = ap (λ (z : Seated M S A). z.lock) made.same ∙ h.lock;
        number = number ∙ h.number;
        done = ap steps_of calls ∙ (map-append (λ (d : Call S A). d.step) (own_calls w) (c ∷ [])
            ∙ (ap (λ (l : List S). l ++ step ∷ []) h.done ∙ sym is));
      }

  -- what is served stays so in a longer history
  pub served_on : (vs : List (Seated M S A)) (ss : List (List S)) (log more : List (Call S A))
      → IsPrefix log more → AreServed vs ss log → AreServed vs ss more
  served_on [] [] log more p h = tt
  served_on [] (s ∷ ss) log more p h = h
  served_on (v ∷ vs) [] log more p h = h
  served_on (v ∷ vs) (s ∷ ss) log more p h = (
    prefix_trans s (steps_of (calls_by v.number log)) (steps_of (calls_by v.number more)) h.0
        (steps_begin v.number log more p),
    served_on vs ss log more p h.1,
  )

  -- one thread more
  pub served_last : (vs : List (Seated M S A)) (ss : List (List S)) (v : Seated M S A) (s : List S)
      (log : List (Call S A)) → AreServed vs ss log → steps_of (calls_by v.number log) ≡ s
      → AreServed (vs ++ v ∷ []) (ss ++ s ∷ []) log
  served_last [] [] v s log h is =
      (subst (λ (l : List S). IsPrefix s l) (sym is) (prefix_self s), tt)
  served_last [] (x ∷ ss) v s log h is = absurd h
  served_last (w ∷ vs) [] v s log h is = absurd h
  served_last (w ∷ vs) (x ∷ ss) v s log h is = (h.0, served_last vs ss v s log h.1 is)

  -- a seat that is fresh has made no call
  pub serves_none : (v : Seated M S A) → own_calls v ≡ [] → HasServed v v []
  serves_none v none = record { lock = refl; number = refl; done = ap steps_of none }

  -- what a joined seat had called is in what was seen
  pub served_theirs : (v w : Seated M S A) (s : List S) (log : List (Call S A)) → HasServed v w s
      → calls_by w.number log ≡ own_calls w → steps_of (calls_by v.number log) ≡ s
  served_theirs v w s log h theirs =
      ap (λ (n : ℕ). steps_of (calls_by n log)) (sym h.number) ∙ (ap steps_of theirs ∙ h.done)

  -- the last of the threads, after the others
  pub served_thread : (owner : S → ℕ) (n thread k : ℕ) (steps : List S) (vs vs' : List (Seated M S A))
      (v : Seated M S A) (log : List (Call S A)) → AreServed vs (shares owner n thread steps) log
      → steps_of (calls_by v.number log) ≡ share owner n thread steps → vs' ≡ vs ++ v ∷ []
      → k ≡ suc thread → AreServed vs' (shares owner n k steps) log
  served_thread owner n thread k steps vs vs' v log h mine all next =
      subst (λ (ws : List (Seated M S A)). AreServed ws (shares owner n k steps) log) (sym all)
      (subst (λ (j : ℕ). AreServed (vs ++ v ∷ []) (shares owner n j steps) log) (sym next)
      (served_last vs (shares owner n thread steps) v (share owner n thread steps) log h mine))

  none_served : (vs : List (Seated M S A)) (log : List (Call S A)) → length vs ≡ 0
      → AreServed vs [] log
  none_served [] log none = tt
  none_served (v ∷ vs) log none = absurd (omega arith)

  -- the first thread alone
  pub served_first : (owner : S → ℕ) (n k : ℕ) (steps : List S) (vs vs' : List (Seated M S A))
      (v w : Seated M S A) → length vs ≡ 0 → HasServed v w (share owner n 0 steps)
      → vs' ≡ vs ++ v ∷ [] → k ≡ 1 → AreServed vs' (shares owner n k steps) w.seen
  served_first owner n k steps vs vs' v w none h all one =
      served_thread owner n 0 k steps vs vs' v w.seen (none_served vs w.seen none)
      (served_theirs v w (share owner n 0 steps) w.seen h refl) all (omega arith)

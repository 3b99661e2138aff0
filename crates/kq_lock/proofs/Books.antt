-- Whose calls a whole history has: at most all of them are the seats', and where all are, the history
-- is a merge of what the seats called.
use Rattle.std.proofs.Common.{◌≡◌, ◌≢◌, ℕ, zero, suc, ◌+◌, ◌==◌, ◌<◌, ◌≤◌, cond, List, [], ◌∷◌}
use Rattle.std.proofs.Common.{length, map, set, sum_by, refl, ap, sym, ◌∙◌, subst, arith, ne_eqb, eq-eqb}
use Rattle.std.proofs.lemmas.List.Sums.{sum_by-cons}
use mathlib.Core.Option.{some}
use mathlib.Core.Logic.{dite}
use native.Mathlib.Decide.{ℕ_discrete}
use lib.ListN.{get_elem?}
use Rattle.kq_lock.specs.declared.view.Call.{Call}
use Rattle.kq_lock.specs.Calls.{calls_by}
use Rattle.kq_lock.specs.Seats.{Seated, EachSeat, AreApart}
use Rattle.kq_lock.specs.Merging.{IsMerge}

module _ {S A : Type 0} where
  next_same : (n : ℕ) (c : Call S A) (cs : List (Call S A)) → n ≡ c.number
      → calls_by n (c ∷ cs) ≡ c ∷ calls_by n cs
  next_same n c cs e =
      ap (λ b. cond b (c ∷ calls_by n cs) (calls_by n cs)) (eq-eqb c.number n (sym e))

  next_other : (n : ℕ) (c : Call S A) (cs : List (Call S A)) → n ≢ c.number
      → calls_by n (c ∷ cs) ≡ calls_by n cs
  next_other n c cs ne =
      ap (λ b. cond b (c ∷ calls_by n cs) (calls_by n cs)) (ne_eqb c.number n (λ e. ne (sym e)))

module _ {M S A : Type 0} where
  -- what each of the seats called, of this history
  abbrev pub calls_of : List (Seated M S A) → List (Call S A) → List (List (Call S A))
  calls_of vs log = map (λ (v : Seated M S A). calls_by v.number log) vs

  -- how many calls of the history are theirs
  abbrev pub count_by : List (Seated M S A) → List (Call S A) → ℕ
  count_by vs log = sum_by length (calls_of vs log)

  count_cons : (v : Seated M S A) (vs : List (Seated M S A)) (log : List (Call S A))
      → count_by (v ∷ vs) log ≡ length (calls_by v.number log) + count_by vs log
  count_cons v vs log = sum_by-cons length (calls_by v.number log) (calls_of vs log)

  -- a call of a seat is no other seat's
  next_others : (n : ℕ) (vs : List (Seated M S A)) (c : Call S A) (cs : List (Call S A))
      → EachSeat (λ (w : Seated M S A). n ≢ w.number) vs → n ≡ c.number
      → calls_of vs (c ∷ cs) ≡ calls_of vs cs
  next_others n [] c cs h e = refl
  next_others n (w ∷ vs) c cs h e = cc (
    next_other w.number c cs (λ same. h.0 (e ∙ sym same)),
    next_others n vs c cs h.1 e,
  )

  -- a call is at most one seat's
  count_next : (vs : List (Seated M S A)) (c : Call S A) (cs : List (Call S A)) → AreApart vs
      → count_by vs (c ∷ cs) ≤ count_by vs cs + 1
  count_next [] c cs h = omega arith
  count_next (v ∷ vs) c cs h = dite (ℕ_discrete v.number c.number)
      (λ e.
      let mine = ap length (next_same v.number c cs e) in
      let others = ap (sum_by length) (next_others v.number vs c cs h.0 e) in
      let after = count_cons v vs (c ∷ cs) in let before = count_cons v vs cs in omega arith)
      (λ ne.
      let mine = ap length (next_other v.number c cs ne) in
      let others = count_next vs c cs h.1 in
      let after = count_cons v vs (c ∷ cs) in let before = count_cons v vs cs in omega arith)

  none_made : (vs : List (Seated M S A)) → count_by vs [] ≡ 0
  none_made [] = refl
  none_made (v ∷ vs) = none_made vs

  -- the calls of seats with different numbers are no more than there are
  pub counted : (vs : List (Seated M S A)) (log : List (Call S A)) → AreApart vs
      → count_by vs log ≤ length log
  counted vs [] h = let none = none_made vs in omega arith
  counted vs (c ∷ cs) h =
      let rest = counted vs cs h in let next = count_next vs c cs h in omega arith

  -- the first call of the history is the first that one of the seats made
  pub record IsFirst (vs : List (Seated M S A)) (c : Call S A) (cs : List (Call S A)) : Type 0 where
    pub seat : ℕ
    pub rest : List (Call S A)
    pub first : get_elem? (calls_of vs (c ∷ cs)) seat ≡ some (c ∷ rest)
    pub others : set (calls_of vs (c ∷ cs)) seat rest ≡ calls_of vs cs

  first_call : (vs : List (Seated M S A)) (c : Call S A) (cs : List (Call S A)) → AreApart vs
      → count_by vs cs < count_by vs (c ∷ cs) → IsFirst vs c cs
  first_call [] c cs h more = absurd (omega arith)
  first_call (v ∷ vs) c cs h more = dite (ℕ_discrete v.number c.number)
      (λ e. record {
        seat = 0;
        rest = calls_by v.number cs;
        first = ap some (next_same v.number c cs e);
        others = ap (λ l. calls_by v.number cs ∷ l) (next_others v.number vs c cs h.0 e);
      })
      (λ ne.
      let mine = next_other v.number c cs ne in let count = ap length mine in
      let after = count_cons v vs (c ∷ cs) in let before = count_cons v vs cs in
      let found = first_call vs c cs h.1 (omega arith) in record {
        seat = suc found.seat;
        rest = found.rest;
        first = found.first;
        others = cc (mine, found.others);
      })

  -- Where all calls are the seats', the history is a merge of what they called.
  pub calls_merge : (vs : List (Seated M S A)) (log : List (Call S A)) → AreApart vs
      → length log ≤ count_by vs log → IsMerge (calls_of vs log) log
  calls_merge vs [] h all = none_made vs
  calls_merge vs (c ∷ cs) h all =
      let rest = counted vs cs h in let next = count_next vs c cs h in
      let found = first_call vs c cs h (omega arith) in (
        found.seat,
        found.rest,
        found.first,
        subst (λ (l : List (List (Call S A))). IsMerge l cs) (sym found.others)
            (calls_merge vs cs h (omega arith)),
      )

-- Where a history is no longer than the shares, it is a merge of them.
use Rattle.std.proofs.Common.{◌≡◌, ℕ, zero, suc, ◌≤◌, List, [], ◌∷◌, length, map, set}
use Rattle.std.proofs.Common.{sum_by, Some, refl, ap, sym, ◌∙◌, subst, arith}
use Rattle.std.proofs.Math.ListN.{length-map}
use Rattle.std.proofs.lemmas.List.Sums.{sum_by-cons}
use mathlib.Core.Option.{some, some-injective, some-ne-none}
use lib.ListN.{get_elem?}
use Rattle.kq_lock.specs.declared.entry.Entry.{Entry}
use Rattle.kq_lock.specs.declared.view.Call.{Call}
use Rattle.kq_lock.specs.Calls.{calls_by, plain, Leads}
use Rattle.kq_lock.specs.Merging.{IsMerge}
use Rattle.kq_lock.specs.Seats.{LockName, Seated, AreApart, Ends}
use Rattle.kq_lock.proofs.Beginnings.{prefix_length, prefix_whole}
use Rattle.kq_lock.proofs.Books.{calls_of, count_by, counted, calls_merge}
use Rattle.kq_serve.specs.Shares.{steps_of, entry_steps, AreServed, Serves}
use Rattle.kq_serve.proofs.Serving.{served_on}

module _ {X Y : Type 0} (f : X → Y) where
  map_at : (ls : List (List X)) (t : ℕ) (l : List X) → get_elem? ls t ≡ some l
      → get_elem? (map (map f) ls) t ≡ some (map f l)
  map_at [] t l e = absurd (some-ne-none l (sym e))
  map_at (x ∷ ls) zero l e = ap (λ (z : List X). some (map f z)) (some-injective x l e)
  map_at (x ∷ ls) (suc t) l e = map_at ls t l e

  map_set : (ls : List (List X)) (t : ℕ) (l : List X)
      → map (map f) (set ls t l) ≡ set (map (map f) ls) t (map f l)
  map_set [] t l = refl
  map_set (x ∷ ls) zero l = refl
  map_set (x ∷ ls) (suc t) l = ap (λ z. map f x ∷ z) (map_set ls t l)

  map_lengths : (ls : List (List X)) → sum_by length (map (map f) ls) ≡ sum_by length ls
  map_lengths [] = refl
  map_lengths (x ∷ ls) =
      let rest = map_lengths ls in let one = length-map x f in
      let a = sum_by-cons length x ls in let b = sum_by-cons length (map f x) (map (map f) ls) in
      omega arith

  -- a merge stays one where each element is changed by f
  merge_map : (ls : List (List X)) (xs : List X) → IsMerge ls xs → IsMerge (map (map f) ls) (map f xs)
  merge_map ls [] h = map_lengths ls ∙ h
  merge_map ls (x ∷ xs) h = (
    h.0,
    map f h.1,
    map_at ls h.0 (x ∷ h.1) h.2,
    subst (λ z. IsMerge z (map f xs)) (map_set ls h.0 h.1) (merge_map (set ls h.0 h.1) xs h.3),
  )

module _ {S A : Type 0} where
  plain_steps : (log : List (Call S A)) → entry_steps (plain log) ≡ steps_of log
  plain_steps [] = refl
  plain_steps (c ∷ cs) = ap (λ (l : List S). c.step ∷ l) (plain_steps cs)

module _ {M S A : Type 0} where
  -- the shares are at most what the seats called
  served_count : (vs : List (Seated M S A)) (ss : List (List S)) (log : List (Call S A))
      → AreServed vs ss log → sum_by length ss ≤ count_by vs log
  served_count [] [] log h = omega arith
  served_count [] (s ∷ ss) log h = absurd h
  served_count (v ∷ vs) [] log h = absurd h
  served_count (v ∷ vs) (s ∷ ss) log h =
      let mine = calls_by v.number log in
      let one = prefix_length s (steps_of mine) h.0 in
      let same = length-map mine (λ (c : Call S A). c.step) in
      let rest = served_count vs ss log h.1 in
      let a = sum_by-cons length s ss in let b = sum_by-cons length mine (calls_of vs log) in
      omega arith

  -- where they are no less, each share is all that its seat called
  served_whole : (vs : List (Seated M S A)) (ss : List (List S)) (log : List (Call S A))
      → AreServed vs ss log → count_by vs log ≤ sum_by length ss
      → ss ≡ map steps_of (calls_of vs log)
  served_whole [] [] log h le = refl
  served_whole [] (s ∷ ss) log h le = absurd h
  served_whole (v ∷ vs) [] log h le = absurd h
  served_whole (v ∷ vs) (s ∷ ss) log h le =
      let mine = calls_by v.number log in
      let one = prefix_length s (steps_of mine) h.0 in
      let same = length-map mine (λ (c : Call S A). c.step) in
      let rest = served_count vs ss log h.1 in
      let a = sum_by-cons length s ss in let b = sum_by-cons length mine (calls_of vs log) in
      let first = prefix_whole s (steps_of mine) h.0 (omega arith) in
      let others = served_whole vs ss log h.1 (omega arith) in
      cc (first, others)

  -- the history of seats apart that has no room for more than the shares
  served_merge : (vs : List (Seated M S A)) (ss : List (List S)) (log : List (Call S A))
      → AreApart vs → AreServed vs ss log → length log ≤ sum_by length ss
      → IsMerge ss (steps_of log)
  served_merge vs ss log apart h short =
      let all = counted vs log apart in let fits = served_count vs ss log h in
      subst (λ (z : List (List S)). IsMerge z (steps_of log))
      (sym (served_whole vs ss log h (omega arith)))
      (merge_map (λ (c : Call S A). c.step) (calls_of vs log) log
      (calls_merge vs log apart (omega arith)))

  -- what the last seat finds when the lock is taken apart
  pub serves : (leads : M → S → A → M → Type 0) (lock : LockName M) (vs : List (Seated M S A))
      (ss : List (List S)) (v : Seated M S A) (opening value : M) (history : List (Entry S A))
      → AreApart vs → AreServed vs ss v.seen → Ends leads lock v value history
      → lock.opening ≡ Some opening → lock.last ≡ sum_by length ss
      → Serves leads opening value ss history
  serves leads lock vs ss v opening value history apart h end opened last =
      let short = end.short in
      let all = served_on vs ss v.seen end.log end.seen h in
      let merged = served_merge vs ss end.log apart all (omega arith) in
      let begun = end.legal.1 in let same : end.legal.0 ≡ opening = cc in record {
        log = end.log;
        is = end.is;
        legal = subst (λ (o : M). Leads leads o end.log value) same end.legal.2;
        merged = subst (λ (l : List S). IsMerge ss l)
            (sym (ap entry_steps end.is ∙ plain_steps end.log)) merged;
      }

-- One moment of the walk: the queue gets the keys of the items that expire there and are not in it.
use Rattle.std.proofs.Common.{◌≡◌, ℕ, Bool, true, false, cond, not, ◌&&◌, ◌||◌, List, [], ◌∷◌, ◌++◌, map, refl, ap, ◌∙◌, append_assoc, append-nil}
use Rattle.std.specs.Cmp.{IsEquivalence}
use Rattle.std.specs.List.{filter, list_any, AllByRecursion, IsDistinct}
use Rattle.std.proofs.lemmas.Map.Keys.{IsDistinct-head, IsDistinct-tail}
use Rattle.kq_model.specs.TimerWalk.{Alarms, is_fresh, queue_at}

-- ---- lists

pub filter-agree : {X : Type 0} (p q : X → Bool) (xs : List X) → AllByRecursion (λ x. p x ≡ q x) xs → filter p xs ≡ filter q xs
filter-agree p q [] all = refl
filter-agree p q (x ∷ xs) all =
    ap (λ b. cond b (x ∷ filter p xs) (filter p xs)) all.0 ∙ ap (λ rest. cond (q x) (x ∷ rest) rest) (filter-agree p q xs all.1)

pub filter-none : {X : Type 0} (p : X → Bool) → ((x : X) → p x ≡ false) → (xs : List X) → filter p xs ≡ []
filter-none p none [] = refl
filter-none p none (x ∷ xs) = rw (none x) (filter-none p none xs)

pub All-both : {X : Type 0} (P Q R : X → Type 0) → ((x : X) → P x → Q x → R x) → (xs : List X) → AllByRecursion P xs → AllByRecursion Q xs → AllByRecursion R xs
All-both P Q R join [] ps qs = tt
All-both P Q R join (x ∷ xs) ps qs = (join x ps.0 qs.0, All-both P Q R join xs ps.1 qs.1)

pub All-like : {X : Type 0} (P R : X → Type 0) → ((x : X) → P x → R x) → (xs : List X) → AllByRecursion P xs → AllByRecursion R xs
All-like P R like [] ps = tt
All-like P R like (x ∷ xs) ps = (like x ps.0, All-like P R like xs ps.1)

All-of_map : {X Key : Type 0} (P : Key → Type 0) (key : X → Key) (xs : List X) → AllByRecursion P (map key xs) → AllByRecursion (λ x. P (key x)) xs
All-of_map P key [] all = tt
All-of_map P key (x ∷ xs) all = (all.0, All-of_map P key xs all.1)

list_any-push : {X : Type 0} (test : X → Bool) (xs : List X) (y : X) → test y ≡ false → list_any test (xs ++ y ∷ []) ≡ list_any test xs
list_any-push test [] y e = rw e
list_any-push test (x ∷ xs) y e = ap (λ b. test x || b) (list_any-push test xs y e)

-- ---- the queue that a moment leaves

-- the items that go to the back of `queue` at a moment
abbrev pub joins : {X Key : Type 0} → Alarms X Key → ℕ → List Key → X → Bool
joins a moment queue x = a.expires x moment && is_fresh a queue x

pub apart : {X Key : Type 0} (a : Alarms X Key) (x : X) (xs : List X) → IsDistinct a.same (map a.key (x ∷ xs)) → AllByRecursion (λ y. a.same (a.key x) (a.key y) ≡ false) xs
apart a x xs distinct = All-of_map (λ k. a.same (a.key x) k ≡ false) a.key xs (IsDistinct-head a.same (a.key x) (map a.key xs) distinct)

joins-push : {X Key : Type 0} (a : Alarms X Key) → IsEquivalence a.same → (moment : ℕ) (queue : List Key) (x y : X) → a.same (a.key x) (a.key y) ≡ false
    → joins a moment (queue ++ a.key x ∷ []) y ≡ joins a moment queue y
joins-push a laws moment queue x y differ =
    ap (λ b. a.expires y moment && (a.enabled y && not b)) (list_any-push (a.same (a.key y)) queue (a.key x) (laws.symm (a.key y) (a.key x) ∙ differ))

pub queue_at-joins : {X Key : Type 0} (a : Alarms X Key) → IsEquivalence a.same → (moment : ℕ) (xs : List X) (queue : List Key) → IsDistinct a.same (map a.key xs)
    → queue_at a moment xs queue ≡ queue ++ map a.key (filter (joins a moment queue) xs)
unfolding queue_at
queue_at-joins a laws moment [] queue distinct = simp append-nil
queue_at-joins {Key = Key} a laws moment (x ∷ xs) queue distinct =
    by_test (joins a moment queue x) (λ q. queue_at-joins a laws moment xs q (IsDistinct-tail a.same (a.key x) (map a.key xs) distinct))
  where
    kept : filter (joins a moment (queue ++ a.key x ∷ [])) xs ≡ filter (joins a moment queue) xs
    kept = filter-agree _ _ xs (All-like (λ y. a.same (a.key x) (a.key y) ≡ false) (λ y. joins a moment (queue ++ a.key x ∷ []) y ≡ joins a moment queue y) (joins-push a laws moment queue x) xs (apart a x xs distinct))

    by_test : (t : Bool) → ((q : List Key) → queue_at a moment xs q ≡ q ++ map a.key (filter (joins a moment q) xs))
        → queue_at a moment xs (cond t (queue ++ a.key x ∷ []) queue) ≡ queue ++ map a.key (cond t (x ∷ filter (joins a moment queue) xs) (filter (joins a moment queue) xs))
    by_test true rest = rest (queue ++ a.key x ∷ []) ∙ ap (λ ys. (queue ++ a.key x ∷ []) ++ map a.key ys) kept ∙ append_assoc queue (a.key x ∷ []) _
    by_test false rest = rest queue

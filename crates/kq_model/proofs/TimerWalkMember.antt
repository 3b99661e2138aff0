-- An item's key is among the keys of the sorted items that pass a test just where it passes the test.
use Rattle.std.proofs.Common.{◌≡◌, ℕ, Bool, true, false, cond, ◌||◌, leb, List, [], ◌∷◌, map, refl, ap, ◌∙◌}
use Rattle.std.specs.Cmp.{IsEquivalence}
use Rattle.std.specs.List.{filter, list_any, AllByRecursion, IsDistinct}
use Rattle.std.proofs.lemmas.Bool.{or_left}
use Rattle.std.proofs.lemmas.Map.Keys.{IsDistinct-tail}
use Rattle.kq_model.specs.TimerWalk.{Alarms}
use Rattle.kq_model.specs.WalkedAtOnce.{placed, in_order}
use Rattle.kq_model.proofs.TimerWalkQueue.{All-both, apart}

-- ---- sorting changes no membership

or_swap : (a b c : Bool) → (a || (b || c)) ≡ (b || (a || c))
or_swap true true c = refl
or_swap true false c = refl
or_swap false true c = refl
or_swap false false c = refl

list_any-placed : {X Key : Type 0} (test : Key → Bool) (key : X → Key) (first : X → ℕ) (x : X) (ys : List X)
    → list_any test (map key (placed first x ys)) ≡ (test (key x) || list_any test (map key ys))
unfolding placed
list_any-placed test key first x [] = refl
list_any-placed test key first x (y ∷ ys) = by_test (leb (first x) (first y)) (list_any-placed test key first x ys)
  where
    by_test : (t : Bool) → list_any test (map key (placed first x ys)) ≡ (test (key x) || list_any test (map key ys))
        → list_any test (map key (cond t (x ∷ y ∷ ys) (y ∷ placed first x ys))) ≡ (test (key x) || (test (key y) || list_any test (map key ys)))
    by_test true rest = refl
    by_test false rest = ap (λ b. test (key y) || b) rest ∙ or_swap (test (key y)) (test (key x)) (list_any test (map key ys))

pub list_any-in_order : {X Key : Type 0} (test : Key → Bool) (key : X → Key) (first : X → ℕ) (xs : List X)
    → list_any test (map key (in_order first xs)) ≡ list_any test (map key xs)
unfolding in_order
list_any-in_order test key first [] = refl
list_any-in_order test key first (x ∷ xs) =
    list_any-placed test key first x (in_order first xs) ∙ ap (λ b. test (key x) || b) (list_any-in_order test key first xs)

-- ---- the items that pass a test, where the keys differ

none_filtered : {X Key : Type 0} (test : Key → Bool) (key : X → Key) (passes : X → Bool) (xs : List X) → AllByRecursion (λ x. test (key x) ≡ false) xs
    → list_any test (map key (filter passes xs)) ≡ false
none_filtered test key passes [] none = refl
none_filtered test key passes (x ∷ xs) none = by_test (passes x) (none_filtered test key passes xs none.1)
  where
    by_test : (t : Bool) → list_any test (map key (filter passes xs)) ≡ false → list_any test (map key (cond t (x ∷ filter passes xs) (filter passes xs))) ≡ false
    by_test true rest = rw (none.0, rest)
    by_test false rest = rest

-- a list's item is among those that pass just where it passes
unfoldable pub IsAmong : {X Key : Type 0} → Alarms X Key → (X → Bool) → List X → X → Type 0
IsAmong a passes xs x = list_any (a.same (a.key x)) (map a.key (filter passes xs)) ≡ passes x

among_itself : {X Key : Type 0} (a : Alarms X Key) → IsEquivalence a.same → (passes : X → Bool) (y : X) (ys : List X)
    → AllByRecursion (λ z. a.same (a.key y) (a.key z) ≡ false) ys → IsAmong a passes (y ∷ ys) y
unfolding IsAmong
among_itself a laws passes y ys differ = by_test (passes y)
  where
    by_test : (t : Bool) → list_any (a.same (a.key y)) (map a.key (cond t (y ∷ filter passes ys) (filter passes ys))) ≡ t
    by_test true = or_left _ _ (laws.refl (a.key y))
    by_test false = none_filtered (a.same (a.key y)) a.key passes ys differ

among_more : {X Key : Type 0} (a : Alarms X Key) → IsEquivalence a.same → (passes : X → Bool) (y : X) (ys : List X) (x : X)
    → a.same (a.key y) (a.key x) ≡ false → IsAmong a passes ys x → IsAmong a passes (y ∷ ys) x
unfolding IsAmong
among_more a laws passes y ys x differ there = by_test (passes y)
  where
    by_test : (t : Bool) → list_any (a.same (a.key x)) (map a.key (cond t (y ∷ filter passes ys) (filter passes ys))) ≡ passes x
    by_test true = rw (laws.symm (a.key x) (a.key y) ∙ differ) there
    by_test false = there

pub all_among : {X Key : Type 0} (a : Alarms X Key) → IsEquivalence a.same → (passes : X → Bool) (xs : List X) → IsDistinct a.same (map a.key xs)
    → AllByRecursion (IsAmong a passes xs) xs
all_among a laws passes [] distinct = tt
all_among a laws passes (y ∷ ys) distinct =
    let differ = apart a y ys distinct in (
      among_itself a laws passes y ys differ,
      All-both (λ x. a.same (a.key y) (a.key x) ≡ false) (IsAmong a passes ys) (IsAmong a passes (y ∷ ys)) (among_more a laws passes y ys) ys differ
          (all_among a laws passes ys (IsDistinct-tail a.same (a.key y) (map a.key ys) distinct)),
    )

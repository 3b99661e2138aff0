-- In another order of a queue, too, no key stands twice.
use Rattle.std.proofs.Common.{◌≡◌, ℕ, ◌+◌, ◌≤◌, Bool, false, cond, ◌||◌, List, [], ◌∷◌, sum_by, refl, sym, ap, ◌∙◌, subst, arith}
use Rattle.std.proofs.lemmas.Bool.{or_parts}
use Rattle.std.proofs.lemmas.List.Sorted.{sum_by-IsPermutation}
use Rattle.std.proofs.lemmas.List.Sums.{sum_by-cons}
use Rattle.std.specs.List.Sorted.{IsPermutation}
use Rattle.kq_model.specs.declared.key.Key.{Key}
use Rattle.kq_model.specs.Knote.{key_eq, has_key}
use Rattle.kq_model.specs.Kqueue.{AreOnce}
use Rattle.kq_model.proofs.KeyLaws.{same_key, key_eq-refl}
use Rattle.kq_model.proofs.KnoteLaws.{by_test}

-- ---- how often a key stands in a list

abbrev one_if : Bool → ℕ
one_if b = cond b 1 0

times : Key → List Key → ℕ
times key [] = 0
times key (x ∷ keys) = one_if (key_eq key x) + times key keys

times-sum : (key : Key) (keys : List Key) → times key keys ≡ sum_by (λ x. one_if (key_eq key x)) keys
unfolding times
times-sum key [] = refl
times-sum key (x ∷ keys) =
    ap (λ n. one_if (key_eq key x) + n) (times-sum key keys) ∙ sym (sum_by-cons (λ y. one_if (key_eq key y)) x keys)

times-absent : (key : Key) (keys : List Key) → has_key key keys ≡ false → times key keys ≡ 0
unfolding times
times-absent key [] absent = refl
times-absent key (x ∷ keys) absent =
    let parts = or_parts (key_eq key x) (has_key key keys) absent in
    ap (λ b. one_if b + times key keys) parts.0 ∙ omega (arith, times-absent key keys parts.1)

absent-times : (key : Key) (keys : List Key) → times key keys ≤ 0 → has_key key keys ≡ false
unfolding times
absent-times key [] none = refl
absent-times key (x ∷ keys) none =
    by_test (λ b. one_if b + times key keys ≤ 0 → b || has_key key keys ≡ false) (key_eq key x)
    (λ _ more. absurd (omega arith)) (λ _ rest. absent-times key keys (omega arith)) none

times-once : (key : Key) (keys : List Key) → AreOnce keys → times key keys ≤ 1
unfolding times
times-once key [] once = omega arith
times-once key (x ∷ keys) once =
    by_test (λ b. key_eq key x ≡ b → one_if b + times key keys ≤ 1) (key_eq key x)
    (λ _ same. let absent = times-absent key keys (ap (λ o. has_key o keys) (same_key key x same) ∙ once.0) in
    omega arith)
    (λ _ _. let rest = times-once key keys once.1 in omega arith) refl

once-times : (keys : List Key) → ((key : Key) → times key keys ≤ 1) → AreOnce keys
unfolding times
once-times [] most = tt
once-times (x ∷ keys) most =
    let front = subst (λ b. one_if b + times x keys ≤ 1) (key_eq-refl x) (most x) in (
      absent-times x keys (omega arith),
      once-times keys (λ key. let whole = most key in omega arith),
    )

pub AreOnce-IsPermutation : (keys order : List Key) → IsPermutation keys order → AreOnce keys → AreOnce order
AreOnce-IsPermutation keys order permutes once =
    once-times order (λ key.
    let most = times-once key keys once in
    let same = times-sum key order ∙ sum_by-IsPermutation (λ x. one_if (key_eq key x)) keys order permutes
    ∙ sym (times-sum key keys) in
    omega arith)

-- A walk along the queue, over the keys at which a retrieval looks.
use Rattle.std.proofs.Common.{◌≡◌, ℕ, zero, suc, ◌+◌, ◌-◌, ◌<◌, ◌≤◌, Bool, true, false, cond, ◌||◌, List, [], ◌∷◌, ◌++◌, take, drop, length, slice_get, append_assoc, append-nil, Option, Some, None, MatchBool, refl, sym, ap, ◌∙◌, arith}
use Rattle.std.proofs.lemmas.Bool.{true≢false, or_left, or_right}
use Rattle.std.proofs.lemmas.List.{drop_all}
use Rattle.std.proofs.lemmas.Option.{none-some, same_Some}
use Rattle.kq_model.specs.declared.kevent.Kevent.{Kevent}
use Rattle.kq_model.specs.declared.key.Key.{Key}
use Rattle.kq_model.specs.Knote.{key_eq, has_key}
use Rattle.kq_model.specs.Kqueue.{AreOnce, IsSound}
use Rattle.kq_model.specs.Tallied.{Kqueue}
use Rattle.kq_model.specs.Views.{Views}
use Rattle.kq_model.proofs.KeyLaws.{same_key, key_eq-refl}
use Rattle.kq_model.proofs.KnoteLaws.{by_test}
use Rattle.kq_judge.specs.Allowed.{event_due}
use Rattle.kq_judge.specs.Pending.{IsPending}
use Rattle.kq_judge.specs.Verdicts.{room_after, looked_at}
use Rattle.kq_judge.proofs.PendingLaws.{pending-due, due-pending}

-- ---- the key at a place

key-there : (queue : List Key) (i : ℕ) (key : Key) → slice_get queue i ≡ Some key → has_key key queue ≡ true
key-there [] i key there = absurd (none-some key there)
key-there (x ∷ queue) zero key there =
    or_left (key_eq key x) (has_key key queue) (ap (key_eq key) (same_Some x key there) ∙ key_eq-refl key)
key-there (x ∷ queue) (suc i) key there =
    or_right (key_eq key x) (has_key key queue) (key-there queue i key there)

once-there : (queue : List Key) (i : ℕ) (key : Key) → AreOnce queue → slice_get queue i ≡ Some key
    → has_key key (take i queue) ≡ false
once-there [] i key once there = absurd (none-some key there)
once-there (x ∷ queue) zero key once there = refl
once-there (x ∷ queue) (suc i) key once there =
    by_test (λ b. key_eq key x ≡ b → b || has_key key (take i queue) ≡ false) (key_eq key x)
    (λ _ same. absurd (true≢false (sym (key-there queue i key there)
    ∙ ap (λ (k : Key). has_key k queue) (same_key key x same) ∙ once.0)))
    (λ _ _. once-there queue i key once.1 there) refl

-- the key at a place is new behind those before it
pub new-there : (queue rows : List Key) (i : ℕ) (key : Key) → AreOnce queue → slice_get queue i ≡ Some key
    → rows ≡ take i queue → has_key key rows ≡ false
new-there queue rows i key once there are = ap (has_key key) are ∙ once-there queue i key once there

plus-one : (i : ℕ) → i + 1 ≡ suc i
plus-one i = omega arith

take-suc : (queue : List Key) (i : ℕ) (key : Key) → slice_get queue i ≡ Some key
    → take (suc i) queue ≡ take i queue ++ key ∷ []
take-suc [] i key there = absurd (none-some key there)
take-suc (x ∷ queue) zero key there = ap (λ (k : Key). k ∷ []) (same_Some x key there)
take-suc (x ∷ queue) (suc i) key there = ap (λ (keys : List Key). x ∷ keys) (take-suc queue i key there)

pub take-there : (queue rows after : List Key) (i : ℕ) (key : Key) → slice_get queue i ≡ Some key
    → rows ≡ take i queue → after ≡ rows ++ key ∷ [] → after ≡ take (i + 1) queue
take-there queue rows after i key there are becomes =
    becomes ∙ ap (λ (keys : List Key). keys ++ key ∷ []) are ∙ sym (take-suc queue i key there)
    ∙ ap (λ n. take n queue) (sym (plus-one i))

drop-suc : (queue : List Key) (i : ℕ) (key : Key) → slice_get queue i ≡ Some key
    → drop i queue ≡ key ∷ drop (suc i) queue
drop-suc [] i key there = absurd (none-some key there)
drop-suc (x ∷ queue) zero key there = ap (λ (k : Key). k ∷ queue) (same_Some x key there)
drop-suc (x ∷ queue) (suc i) key there = drop-suc queue i key there

none-there : (queue : List Key) (i : ℕ) → slice_get queue i ≡ None → length queue ≤ i
none-there [] i is = omega arith
none-there (x ∷ queue) zero is = absurd (none-some x (sym is))
none-there (x ∷ queue) (suc i) is = omega (arith, none-there queue i is)

-- ---- the walk, from a place on, with so much room left

module _ (due : Key → Option Kevent) (all queue : List Key) where
  pub looked-goes : (rows after : List Key) (i left fewer : ℕ) (key : Key) → slice_get queue i ≡ Some key → 0 < left
      → rows ++ looked_at due left (drop i queue) ≡ all → after ≡ rows ++ key ∷ []
      → fewer ≡ room_after (due key) (left - 1) → after ++ looked_at due fewer (drop (i + 1) queue) ≡ all
  unfolding looked_at
  looked-goes rows after i zero fewer key there some so_far becomes goes = absurd (omega (arith, some))
  looked-goes rows after i (suc left) fewer key there some so_far becomes goes =
      let rest = drop (suc i) queue in
      let fewer_is : fewer ≡ room_after (due key) left =
      goes ∙ ap (room_after (due key)) (let e : suc left - 1 ≡ left = omega arith in e) in
      ap (λ (keys : List Key). keys ++ looked_at due fewer (drop (i + 1) queue)) becomes
      ∙ append_assoc rows (key ∷ []) (looked_at due fewer (drop (i + 1) queue))
      ∙ ap (λ n. rows ++ key ∷ looked_at due n (drop (i + 1) queue)) fewer_is
      ∙ ap (λ n. rows ++ key ∷ looked_at due (room_after (due key) left) (drop n queue)) (plus-one i)
      ∙ ap (λ (keys : List Key). rows ++ looked_at due (suc left) keys) (sym (drop-suc queue i key there))
      ∙ so_far

  pub looked-ends : (rows : List Key) (i left : ℕ) → length queue ≤ i
      → rows ++ looked_at due left (drop i queue) ≡ all → rows ≡ all
  unfolding looked_at
  looked-ends rows i left end so_far =
      sym (append-nil rows)
      ∙ ap (λ (keys : List Key). rows ++ looked_at due left keys) (sym (drop_all i queue end)) ∙ so_far

  pub looked-stops : (rows : List Key) (i left : ℕ) → slice_get queue i ≡ None
      → rows ++ looked_at due left (drop i queue) ≡ all → rows ≡ all
  looked-stops rows i left none so_far = looked-ends rows i left (none-there queue i none) so_far

  pub looked-full : (rows : List Key) (i left : ℕ) → left ≡ 0 → rows ++ looked_at due left (drop i queue) ≡ all
      → rows ≡ all
  unfolding looked_at
  looked-full rows i left none so_far =
      sym (append-nil rows) ∙ ap (λ (keys : List Key). rows ++ keys) (sym (nothing (drop i queue)))
      ∙ ap (λ n. rows ++ looked_at due n (drop i queue)) (sym none) ∙ so_far
    where
      nothing : (keys : List Key) → looked_at due 0 keys ≡ []
      nothing [] = refl
      nothing (x ∷ keys) = refl

-- the room behind a look, by what it found
pub room-found : (views : Views) (kq : Kqueue) (i left fewer : ℕ) (key : Key) (found : Bool) → IsSound kq
    → slice_get kq.queue i ≡ Some key → 0 < left
    → MatchBool found ((e : Kevent) × IsPending views kq.knotes key e)
    ((e : Kevent) → IsPending views kq.knotes key e → ⊥)
    → fewer ≡ cond found (left - 1) left → fewer ≡ room_after (event_due views kq.knotes key) (left - 1)
room-found views kq i left fewer key true sound there some is goes =
    goes ∙ ap (λ (o : Option Kevent). room_after o (left - 1)) (sym (pending-due views kq.knotes key is.0 is.1))
room-found views kq i left fewer key false sound there some none goes =
    goes ∙ more ∙ ap (λ (o : Option Kevent). room_after o (left - 1)) (sym (by (event_due views kq.knotes key) refl))
  where
    more : left ≡ suc (left - 1)
    more = omega (arith, some)

    by : (o : Option Kevent) → event_due views kq.knotes key ≡ o → event_due views kq.knotes key ≡ None
    by None is = is
    by (Some e) is = absurd (none e (due-pending views kq key e sound (key-there kq.queue i key there) is))

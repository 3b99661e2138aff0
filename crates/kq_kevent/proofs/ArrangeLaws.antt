-- Another order of a queue: it has the same keys, those that are named first come first, and taking them to the front
-- from the last one to the first gives it.
use Rattle.std.proofs.Common.{◌≡◌, ℕ, zero, suc, Bool, true, false, cond, not, ◌&&◌, ◌||◌, List, [], ◌∷◌, ◌++◌, slice_get, Some, refl, sym, ap, ◌∙◌, subst}
use Rattle.std.proofs.lemmas.Bool.{or_left, or_right, true≢false}
use Rattle.std.proofs.lemmas.List.Sorted.{IsPermutation-refl, IsPermutation-cons, IsPermutation-to_front, IsPermutation-append_left, IsPermutation-trans}
use Rattle.std.proofs.lemmas.Option.{none-some, same_Some}
use Rattle.std.specs.Prelude.{IsPermutation}
use Rattle.kq_model.specs.declared.key.Key.{Key}
use Rattle.kq_model.specs.Knote.{key_eq, has_key, without_key}
use Rattle.kq_model.specs.Kqueue.{AreOnce, IsSound}
use Rattle.kq_model.specs.Tallied.{Kqueue}
use Rattle.kq_model.proofs.KeyLaws.{same_key, key_eq-refl, key_eq-sym, has_key-without_same, has_key-without_other}
use Rattle.kq_model.proofs.KeyLists.{filter_true, filter_both, filter_agree_among, has_key-filter, without_key-absent}
use Rattle.kq_model.proofs.KnoteLaws.{by_test}
use Rattle.kq_table.specs.Rows.{key_behind}
use Rattle.kq_kevent.specs.Arranged.{key_after, named_in, without_keys, arranged, AreAllIn}
use Rattle.kq_kevent.proofs.QueueLaws.{AreOnce-without}

-- ---- one key more

not-or : (a b : Bool) → not (a || b) ≡ not a && not b
not-or true b = refl
not-or false b = refl

-- keys are taken out one after the other
pub without_keys-first : (k : Key) (ks q : List Key) → without_keys (k ∷ ks) q ≡ without_keys ks (without_key k q)
without_keys-first k ks q =
    filter_agree_among (λ x. not (has_key x (k ∷ ks))) (λ x. not (key_eq k x) && not (has_key x ks)) q
    (λ x _. not-or (key_eq x k) (has_key x ks) ∙ ap (λ b. not b && not (has_key x ks)) (key_eq-sym x k))
    ∙ sym (filter_both (λ x. not (has_key x ks)) (λ x. not (key_eq k x)) q)

abbrev named_by : Key → List Key → List Key → Bool → List Key
named_by k ks q b = cond b (k ∷ named_in ks (without_key k q)) (named_in ks q)

named_in-there : (k : Key) (ks q : List Key) → has_key k q ≡ true
    → named_in (k ∷ ks) q ≡ k ∷ named_in ks (without_key k q)
unfolding named_in
named_in-there k ks q there = ap (named_by k ks q) there

named_in-absent : (k : Key) (ks q : List Key) → has_key k q ≡ false → named_in (k ∷ ks) q ≡ named_in ks q
unfolding named_in
named_in-absent k ks q absent = ap (named_by k ks q) absent

arranged-there : (k : Key) (ks q : List Key) → has_key k q ≡ true
    → arranged (k ∷ ks) q ≡ k ∷ arranged ks (without_key k q)
unfolding arranged
arranged-there k ks q there =
    ap (λ (l : List Key). l ++ without_keys (k ∷ ks) q) (named_in-there k ks q there)
    ∙ ap (λ (l : List Key). k ∷ (named_in ks (without_key k q) ++ l)) (without_keys-first k ks q)

arranged-absent : (k : Key) (ks q : List Key) → has_key k q ≡ false → arranged (k ∷ ks) q ≡ arranged ks q
unfolding arranged
arranged-absent k ks q absent =
    ap (λ (l : List Key). l ++ without_keys (k ∷ ks) q) (named_in-absent k ks q absent)
    ∙ ap (λ (l : List Key). named_in ks q ++ l)
    (without_keys-first k ks q ∙ ap (without_keys ks) (without_key-absent k q absent))

pub arranged-nil : (q : List Key) → arranged [] q ≡ q
unfolding arranged named_in
arranged-nil q = filter_true q

-- ---- the same keys

-- a key of the queue is put first
taken_first : (k : Key) (q : List Key) → AreOnce q → has_key k q ≡ true → IsPermutation q (k ∷ without_key k q)
taken_first k [] once there = absurd (true≢false (sym there))
taken_first k (x ∷ q) once there =
    by_test (λ b. key_eq k x ≡ b → b || has_key k q ≡ true
    → IsPermutation (x ∷ q) (k ∷ cond (not b) (x ∷ without_key k q) (without_key k q))) (key_eq k x)
    (λ _ same _.
    let here : k ≡ x = same_key k x same in
    let rest : without_key k q ≡ q =
    without_key-absent k q (ap (λ (o : Key). has_key o q) here ∙ once.0) in
    subst (λ (l : List Key). IsPermutation (x ∷ q) (k ∷ l)) (sym rest)
    (subst (λ (o : Key). IsPermutation (x ∷ q) (o ∷ q)) (sym here) (IsPermutation-refl (x ∷ q))))
    (λ _ apart later.
    IsPermutation-trans (x ∷ q) (x ∷ k ∷ without_key k q) (k ∷ x ∷ without_key k q)
    (IsPermutation-cons x q (k ∷ without_key k q) (taken_first k q once.1 later))
    (IsPermutation-append_left (without_key k q) (x ∷ k ∷ []) (k ∷ x ∷ []) (IsPermutation-to_front (x ∷ []) k)))
    refl there

pub arranged-same : (ks q : List Key) → AreOnce q → IsPermutation q (arranged ks q)
arranged-same [] q once = subst (IsPermutation q) (sym (arranged-nil q)) (IsPermutation-refl q)
arranged-same (k ∷ ks) q once =
    by_test (λ b. has_key k q ≡ b → IsPermutation q (arranged (k ∷ ks) q)) (has_key k q)
    (λ _ there. subst (IsPermutation q) (sym (arranged-there k ks q there))
    (IsPermutation-trans q (k ∷ without_key k q) (k ∷ arranged ks (without_key k q)) (taken_first k q once there)
    (IsPermutation-cons k (without_key k q) (arranged ks (without_key k q))
    (arranged-same ks (without_key k q) (AreOnce-without k q once)))))
    (λ _ absent. subst (IsPermutation q) (sym (arranged-absent k ks q absent)) (arranged-same ks q once)) refl

pub has_key-arranged : (key : Key) (ks q : List Key) → has_key key (arranged ks q) ≡ has_key key q
has_key-arranged key [] q = ap (has_key key) (arranged-nil q)
has_key-arranged key (k ∷ ks) q =
    by_test (λ b. has_key k q ≡ b → has_key key (arranged (k ∷ ks) q) ≡ has_key key q) (has_key k q)
    (λ _ there. ap (has_key key) (arranged-there k ks q there)
    ∙ ap (λ b. key_eq key k || b) (has_key-arranged key ks (without_key k q))
    ∙ by_test (λ b. key_eq key k ≡ b → b || has_key key (without_key k q) ≡ has_key key q) (key_eq key k)
    (λ _ same. sym (ap (λ (o : Key). has_key o q) (same_key key k same) ∙ there))
    (λ _ apart. has_key-without_other key k q (key_eq-sym k key ∙ apart)) refl)
    (λ _ absent. ap (has_key key) (arranged-absent k ks q absent) ∙ has_key-arranged key ks q) refl

pub AreOnce-arranged : (ks q : List Key) → AreOnce q → AreOnce (arranged ks q)
AreOnce-arranged [] q once = subst AreOnce (sym (arranged-nil q)) once
AreOnce-arranged (k ∷ ks) q once =
    by_test (λ b. has_key k q ≡ b → AreOnce (arranged (k ∷ ks) q)) (has_key k q)
    (λ _ there. subst AreOnce (sym (arranged-there k ks q there)) (
      has_key-arranged k ks (without_key k q) ∙ has_key-without_same k q,
      AreOnce-arranged ks (without_key k q) (AreOnce-without k q once),
    ))
    (λ _ absent. subst AreOnce (sym (arranged-absent k ks q absent)) (AreOnce-arranged ks q once)) refl

pub IsSound-arranged : (kq : Kqueue) (ks : List Key) → IsSound kq → IsSound (record kq { queue = arranged ks kq.queue })
IsSound-arranged kq ks sound = record {
  own_keys = sound.own_keys;
  once = AreOnce-arranged ks kq.queue sound.once;
  waiting = λ key. has_key-arranged key ks kq.queue ∙ sound.waiting key;
}

-- ---- keys of the queue, of which none stands twice

key_here : (k : Key) (ks : List Key) → has_key k (k ∷ ks) ≡ true
key_here k ks = or_left (key_eq k k) (has_key k ks) (key_eq-refl k)

key_later : (key k : Key) (ks : List Key) → has_key key ks ≡ true → has_key key (k ∷ ks) ≡ true
key_later key k ks there = or_right (key_eq key k) (has_key key ks) there

-- a key that is among keys differs from one that is not
differs : (key k : Key) (ks : List Key) → has_key key ks ≡ true → has_key k ks ≡ false → key_eq k key ≡ false
differs key k ks there absent =
    by_test (λ b. key_eq k key ≡ b → b ≡ false) (key_eq k key)
    (λ _ same. absurd (true≢false (sym there ∙ ap (λ (o : Key). has_key o ks) (sym (same_key k key same)) ∙ absent)))
    (λ _ _. refl) refl

named_in-all : (ks q : List Key) → AreOnce ks → AreAllIn ks q → named_in ks q ≡ ks
unfolding named_in
named_in-all [] q once all = refl
named_in-all (k ∷ ks) q once all =
    named_in-there k ks q (all k (key_here k ks))
    ∙ ap (λ (l : List Key). k ∷ l) (named_in-all ks (without_key k q) once.1
    (λ key there. has_key-without_other key k q (differs key k ks there once.0) ∙ all key (key_later key k ks there)))

pub arranged-first : (ks q : List Key) → AreOnce ks → AreAllIn ks q → arranged ks q ≡ ks ++ without_keys ks q
unfolding arranged
arranged-first ks q once all = ap (λ (l : List Key). l ++ without_keys ks q) (named_in-all ks q once all)

-- ---- keys that are taken to the front from the last one to the first

without_keys-once : (k : Key) (q : List Key) → without_key k (without_key k q) ≡ without_key k q
without_keys-once k q = without_key-absent k (without_key k q) (has_key-without_same k q)

without_keys-swap : (k j : Key) (q : List Key) → without_key k (without_key j q) ≡ without_key j (without_key k q)
without_keys-swap k j q =
    filter_both (λ x. not (key_eq k x)) (λ x. not (key_eq j x)) q
    ∙ filter_agree_among (λ x. not (key_eq j x) && not (key_eq k x)) (λ x. not (key_eq k x) && not (key_eq j x)) q
    (λ x _. and-sym (not (key_eq j x)) (not (key_eq k x)))
    ∙ sym (filter_both (λ x. not (key_eq j x)) (λ x. not (key_eq k x)) q)
  where
    and-sym : (a b : Bool) → a && b ≡ b && a
    and-sym true true = refl
    and-sym true false = refl
    and-sym false true = refl
    and-sym false false = refl

-- taking a key out and putting others first may be done in either order
without_key-arranged : (k : Key) (ks q : List Key) → without_key k (arranged ks q) ≡ arranged ks (without_key k q)
without_key-arranged k [] q = ap (without_key k) (arranged-nil q) ∙ sym (arranged-nil (without_key k q))
without_key-arranged k (j ∷ ks) q =
    by_test (λ b. has_key j q ≡ b → without_key k (arranged (j ∷ ks) q) ≡ arranged (j ∷ ks) (without_key k q)) (has_key j q)
    (λ _ there.
    let rest : without_key k (arranged ks (without_key j q)) ≡ arranged ks (without_key k (without_key j q)) =
    without_key-arranged k ks (without_key j q) in
    ap (without_key k) (arranged-there j ks q there)
    ∙ by_test (λ b. key_eq k j ≡ b
    → cond (not b) (j ∷ without_key k (arranged ks (without_key j q))) (without_key k (arranged ks (without_key j q)))
    ≡ arranged (j ∷ ks) (without_key k q)) (key_eq k j)
    (λ _ same.
    let one : k ≡ j = same_key k j same in
    rest ∙ ap (λ (o : Key). arranged ks (without_key k (without_key o q))) (sym one) ∙ ap (arranged ks) (without_keys-once k q)
    ∙ sym (arranged-absent j ks (without_key k q)
    (ap (λ (o : Key). has_key o (without_key k q)) (sym one) ∙ has_key-without_same k q)))
    (λ _ apart.
    ap (λ (l : List Key). j ∷ l) (rest ∙ ap (arranged ks) (without_keys-swap k j q))
    ∙ sym (arranged-there j ks (without_key k q) (has_key-without_other j k q apart ∙ there))) refl)
    (λ _ absent.
    ap (without_key k) (arranged-absent j ks q absent) ∙ without_key-arranged k ks q
    ∙ sym (arranged-absent j ks (without_key k q)
    (has_key-filter (λ x. not (key_eq k x)) j q ∙ ap (λ b. b && not (key_eq k j)) absent))) refl

-- once the keys behind it are first, so is one more
pub arranged-one_more : (k : Key) (ks q : List Key)
    → cond (has_key k (arranged ks q)) (k ∷ without_key k (arranged ks q)) (arranged ks q) ≡ arranged (k ∷ ks) q
arranged-one_more k ks q =
    ap (λ b. cond b (k ∷ without_key k (arranged ks q)) (arranged ks q)) (has_key-arranged k ks q)
    ∙ by_test (λ b. has_key k q ≡ b
    → cond b (k ∷ without_key k (arranged ks q)) (arranged ks q) ≡ arranged (k ∷ ks) q) (has_key k q)
    (λ _ there. ap (λ (l : List Key). k ∷ l) (without_key-arranged k ks q) ∙ sym (arranged-there k ks q there))
    (λ _ absent. sym (arranged-absent k ks q absent)) refl

-- ---- a walk over the queue

has_key-at : (q : List Key) (i : ℕ) (key : Key) → slice_get q i ≡ Some key → has_key key q ≡ true
has_key-at [] i key is = absurd (none-some key is)
has_key-at (x ∷ q) zero key is =
    subst (λ (o : Key). has_key o (x ∷ q) ≡ true) (same_Some x key is) (key_here x q)
has_key-at (x ∷ q) (suc i) key is = key_later key x q (has_key-at q i key is)

-- behind the key of a place comes that of the next place
pub key_after-next : (q : List Key) (i : ℕ) (key : Key) → AreOnce q → slice_get q i ≡ Some key
    → key_after key q ≡ slice_get q (suc i)
unfolding key_behind
key_after-next [] i key once is = absurd (none-some key is)
key_after-next (x ∷ q) zero key once is =
    subst (λ (o : Key). cond (key_eq o x) (slice_get q 0) (key_after o q) ≡ slice_get q 0) (same_Some x key is)
    (ap (λ b. cond b (slice_get q 0) (key_after x q)) (key_eq-refl x))
key_after-next (x ∷ q) (suc i) key once is =
    ap (λ b. cond b (slice_get q 0) (key_after key q))
    (key_eq-sym key x ∙ differs key x q (has_key-at q i key is) once.0)
    ∙ key_after-next q i key once.1 is

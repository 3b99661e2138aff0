-- The queue as a list of keys: what is in it, and that no key stands in it twice, after each change.
use Rattle.std.proofs.Common.{◌≡◌, Bool, true, false, cond, not, ◌&&◌, ◌||◌, List, [], ◌∷◌, ◌++◌, refl, sym, ap, ◌∙◌, subst}
use Rattle.std.proofs.lemmas.Bool.{or_parts}
use Rattle.std.specs.Option.{is_some}
use Rattle.kq_model.specs.declared.key.Key.{Key}
use Rattle.kq_model.specs.Knote.{key_eq, find_knote, has_key, without_key, queued}
use Rattle.kq_model.specs.Kqueue.{AreOnce}
use Rattle.kq_model.specs.Registration.{queue_for}
use Rattle.kq_model.specs.Tallied.{Knote}
use Rattle.kq_model.proofs.KeyLaws.{same_key, key_eq-refl, key_eq-sym, has_key-append, has_key-without_same, has_key-without_other}
use Rattle.kq_model.proofs.KnoteLaws.{by_test}

pub has_key-push_same : (k : Key) (q : List Key) → has_key k (q ++ k ∷ []) ≡ true
has_key-push_same k q =
    has_key-append k q (k ∷ []) ∙ ap (λ b. has_key k q || (b || false)) (key_eq-refl k) ∙ or-true (has_key k q)
  where
    or-true : (b : Bool) → b || true ≡ true
    or-true true = refl
    or-true false = refl

or-false : (b : Bool) → b || false ≡ b
or-false true = refl
or-false false = refl

pub has_key-push_other : (key k : Key) (q : List Key) → key_eq k key ≡ false
    → has_key key (q ++ k ∷ []) ≡ has_key key q
has_key-push_other key k q apart =
    has_key-append key q (k ∷ []) ∙ ap (λ b. has_key key q || (b || false)) (key_eq-sym key k ∙ apart)
    ∙ or-false (has_key key q)

pub has_key-without_none : (key gone : Key) (q : List Key) → has_key key q ≡ false
    → has_key key (without_key gone q) ≡ false
has_key-without_none key gone q absent =
    by_test (λ b. key_eq gone key ≡ b → has_key key (without_key gone q) ≡ false) (key_eq gone key)
    (λ _ same. subst (λ (other : Key). has_key other (without_key gone q) ≡ false) (same_key gone key same)
    (has_key-without_same gone q))
    (λ _ apart. has_key-without_other key gone q apart ∙ absent) refl

abbrev kept : Key → List Key → Bool → List Key
kept x rest b = cond (not b) (x ∷ rest) rest

-- a key that is not in the queue is not taken out
pub without_key-absent : (gone : Key) (q : List Key) → has_key gone q ≡ false → without_key gone q ≡ q
without_key-absent gone [] absent = refl
without_key-absent gone (x ∷ q) absent =
    let parts = or_parts (key_eq gone x) (has_key gone q) absent in
    ap (kept x (without_key gone q)) parts.0 ∙ ap (λ rest. x ∷ rest) (without_key-absent gone q parts.1)

pub AreOnce-push : (k : Key) (q : List Key) → AreOnce q → has_key k q ≡ false → AreOnce (q ++ k ∷ [])
AreOnce-push k [] once absent = (refl, tt)
AreOnce-push k (x ∷ q) once absent =
    let parts = or_parts (key_eq k x) (has_key k q) absent in
    (has_key-push_other x k q parts.0 ∙ once.0, AreOnce-push k q once.1 parts.1)

pub AreOnce-without : (gone : Key) (q : List Key) → AreOnce q → AreOnce (without_key gone q)
AreOnce-without gone [] once = tt
AreOnce-without gone (x ∷ q) once =
    by_test (λ b. AreOnce (kept x (without_key gone q) b)) (key_eq gone x)
    (λ _. AreOnce-without gone q once.1)
    (λ _. (has_key-without_none x gone q once.0, AreOnce-without gone q once.1))

-- ---- a key that is put in where it is not

abbrev put_if_absent : Key → List Key → Bool → List Key
put_if_absent k q b = cond b q (q ++ k ∷ [])

pub has_key-queued_same : (k : Key) (q : List Key) → has_key k (queued k q) ≡ true
has_key-queued_same k q =
    by_test (λ b. has_key k q ≡ b → has_key k (put_if_absent k q b) ≡ true) (has_key k q)
    (λ _ here. here) (λ _ _. has_key-push_same k q) refl

pub has_key-queued_other : (key k : Key) (q : List Key) → key_eq k key ≡ false
    → has_key key (queued k q) ≡ has_key key q
has_key-queued_other key k q apart =
    by_test (λ b. has_key key (put_if_absent k q b) ≡ has_key key q) (has_key k q)
    (λ _. refl) (λ _. has_key-push_other key k q apart)

pub AreOnce-queued : (k : Key) (q : List Key) → AreOnce q → AreOnce (queued k q)
AreOnce-queued k q once =
    by_test (λ b. has_key k q ≡ b → AreOnce (put_if_absent k q b)) (has_key k q)
    (λ _ _. once) (λ _ absent. AreOnce-push k q once absent) refl

-- ---- the queue for a knote

abbrev queue_by : Knote → List Key → Bool → Bool → List Key
queue_by k q enabled active = cond enabled (cond active (queued k.key q) q) (without_key k.key q)

pub has_key-queue_for_other : (key : Key) (k : Knote) (q : List Key) → key_eq k.key key ≡ false
    → has_key key (queue_for k q) ≡ has_key key q
unfolding queue_for
has_key-queue_for_other key k q apart =
    by_test (λ e. has_key key (queue_by k q e k.active) ≡ has_key key q) k.enabled
    (λ _. by_test (λ a. has_key key (queue_by k q true a) ≡ has_key key q) k.active
    (λ _. has_key-queued_other key k.key q apart) (λ _. refl))
    (λ _. has_key-without_other key k.key q apart)

-- where a knote that is not active is not in the queue, the knote is in it when active and enabled
pub has_key-queue_for_same : (k : Knote) (q : List Key) → (k.active ≡ false → has_key k.key q ≡ false)
    → has_key k.key (queue_for k q) ≡ k.active && k.enabled
unfolding queue_for
has_key-queue_for_same k q idle =
    by_test (λ e. has_key k.key (queue_by k q e k.active) ≡ k.active && e) k.enabled
    (λ _. by_test (λ a. (a ≡ false → has_key k.key q ≡ false) → has_key k.key (queue_by k q true a) ≡ a && true)
    k.active
    (λ _ _. has_key-queued_same k.key q) (λ _ absent. absent refl) idle)
    (λ _. has_key-without_same k.key q ∙ sym (and-false k.active))
  where
    and-false : (b : Bool) → b && false ≡ false
    and-false true = refl
    and-false false = refl

pub AreOnce-queue_for : (k : Knote) (q : List Key) → AreOnce q → AreOnce (queue_for k q)
unfolding queue_for
AreOnce-queue_for k q once =
    by_test (λ e. AreOnce (queue_by k q e k.active)) k.enabled
    (λ _. by_test (λ a. AreOnce (queue_by k q true a)) k.active (λ _. AreOnce-queued k.key q once) (λ _. once))
    (λ _. AreOnce-without k.key q once)

-- the queue for a knote, in each case
pub queue_for-disabled : (k : Knote) (q : List Key) → k.enabled ≡ false → queue_for k q ≡ without_key k.key q
unfolding queue_for
queue_for-disabled k q disabled = ap (λ e. queue_by k q e k.active) disabled

pub queue_for-idle : (k : Knote) (q : List Key) → k.enabled ≡ true → k.active ≡ false → queue_for k q ≡ q
unfolding queue_for
queue_for-idle k q enabled idle = ap (λ e. queue_by k q e k.active) enabled ∙ ap (queue_by k q true) idle

pub queue_for-there : (k : Knote) (q : List Key) → k.enabled ≡ true → has_key k.key q ≡ true → queue_for k q ≡ q
unfolding queue_for
queue_for-there k q enabled there =
    ap (λ e. queue_by k q e k.active) enabled ∙ by_test (λ a. queue_by k q true a ≡ q) k.active
    (λ _. ap (put_if_absent k.key q) there) (λ _. refl)

pub queue_for-active : (k : Knote) (q : List Key) → k.enabled ≡ true → k.active ≡ true → queue_for k q ≡ queued k.key q
unfolding queue_for
queue_for-active k q enabled active = ap (λ e. queue_by k q e k.active) enabled ∙ ap (queue_by k q true) active

pub queue_for-comes : (k : Knote) (q : List Key) → k.enabled ≡ true → k.active ≡ true → has_key k.key q ≡ false
    → queue_for k q ≡ q ++ k.key ∷ []
queue_for-comes k q enabled active absent = queue_for-active k q enabled active ∙ ap (put_if_absent k.key q) absent

-- ---- what is put in

-- the key of a knote that is there goes in
pub put_in-there : (key : Key) (ks : List Knote) (q : List Key) → is_some (find_knote key ks) ≡ true
    → cond (is_some (find_knote key ks)) (queued key q) q ≡ queued key q
put_in-there key ks q there = ap (λ b. cond b (queued key q) q) there

pub queued-absent : (key : Key) (q : List Key) → has_key key q ≡ false → queued key q ≡ q ++ key ∷ []
queued-absent key q absent = ap (put_if_absent key q) absent

-- Lists of keys that are filtered and joined: what is in them, and that no key stands in them twice.
use Rattle.std.proofs.Common.{◌≡◌, Bool, true, false, cond, not, ◌&&◌, ◌||◌, List, [], ◌∷◌, ◌++◌, filter, refl, ap, ◌∙◌, subst}
use Rattle.std.proofs.lemmas.Bool.{or_parts}
use Rattle.kq_model.specs.declared.key.Key.{Key}
use Rattle.kq_model.specs.Knote.{key_eq, has_key, without_key}
use Rattle.kq_model.specs.Kqueue.{AreOnce}
use Rattle.kq_model.proofs.KeyLaws.{same_key, key_eq-refl, has_key-append}
use Rattle.kq_model.proofs.KnoteLaws.{by_test}

-- ---- tests

pub and_off : (a b : Bool) → b ≡ false → a && b ≡ false
and_off true b off = off
and_off false b off = refl

pub and_false : (a : Bool) → a && false ≡ false
and_false true = refl
and_false false = refl

pub or_false : (a : Bool) → a || false ≡ a
or_false true = refl
or_false false = refl

pub or_there : (a b : Bool) → b ≡ true → a || b ≡ true
or_there true b there = refl
or_there false b there = there

-- ---- lists that are filtered

pub filter_true : {A : Type 0} (xs : List A) → filter (λ _. true) xs ≡ xs
filter_true [] = refl
filter_true (x ∷ xs) = ap (λ rest. x ∷ rest) (filter_true xs)

pub filter_both : {A : Type 0} (p q : A → Bool) (xs : List A) → filter p (filter q xs) ≡ filter (λ x. q x && p x) xs
filter_both p q [] = refl
filter_both p q (x ∷ xs) =
    by_test (λ b. filter p (cond b (x ∷ filter q xs) (filter q xs)) ≡ cond (b && p x) (x ∷ filter (λ y. q y && p y) xs) (filter (λ y. q y && p y) xs))
    (q x) (λ _. ap (λ rest. cond (p x) (x ∷ rest) rest) (filter_both p q xs)) (λ _. filter_both p q xs)

-- two tests that agree at each key of a list keep the same keys of it
pub filter_agree_among : (p q : Key → Bool) (xs : List Key) → ((key : Key) → has_key key xs ≡ true → p key ≡ q key) → filter p xs ≡ filter q xs
filter_agree_among p q [] agree = refl
filter_agree_among p q (x ∷ xs) agree =
    ap (λ b. cond b (x ∷ filter p xs) (filter p xs)) (agree x (ap (λ b. b || has_key x xs) (key_eq-refl x)))
    ∙ ap (λ rest. cond (q x) (x ∷ rest) rest)
    (filter_agree_among p q xs (λ key there. agree key (or_there (key_eq key x) (has_key key xs) there)))

-- a key that is not there is not taken out
pub without_key-absent : (gone : Key) (xs : List Key) → has_key gone xs ≡ false → without_key gone xs ≡ xs
without_key-absent gone [] absent = refl
without_key-absent gone (x ∷ xs) absent =
    let parts = or_parts (key_eq gone x) (has_key gone xs) absent in
    ap (λ b. cond (not b) (x ∷ without_key gone xs) (without_key gone xs)) parts.0
    ∙ ap (λ rest. x ∷ rest) (without_key-absent gone xs parts.1)

pub has_key-filter : (p : Key → Bool) (key : Key) (xs : List Key) → has_key key (filter p xs) ≡ has_key key xs && p key
has_key-filter p key [] = refl
has_key-filter p key (x ∷ xs) =
    let rest = filter p xs in
    let before : has_key key rest ≡ has_key key xs && p key = has_key-filter p key xs in
    by_test (λ b. key_eq key x ≡ b → has_key key (cond (p x) (x ∷ rest) rest) ≡ (b || has_key key xs) && p key) (key_eq key x)
    (λ _ same. subst (λ (o : Key). has_key key (cond (p o) (x ∷ rest) rest) ≡ p key) (same_key key x same)
    (by_test (λ b. p key ≡ b → has_key key (cond b (x ∷ rest) rest) ≡ b) (p key)
    (λ _ _. ap (λ b. b || has_key key rest) same)
    (λ _ off. before ∙ and_off (has_key key xs) (p key) off) refl))
    (λ _ apart. by_test (λ b. has_key key (cond b (x ∷ rest) rest) ≡ has_key key rest) (p x)
    (λ _. ap (λ b. b || has_key key rest) apart) (λ _. refl) ∙ before) refl

-- ---- no key twice

pub AreOnce-filter : (p : Key → Bool) (xs : List Key) → AreOnce xs → AreOnce (filter p xs)
AreOnce-filter p [] once = tt
AreOnce-filter p (x ∷ xs) once =
    by_test (λ b. AreOnce (cond b (x ∷ filter p xs) (filter p xs))) (p x)
    (λ _. (has_key-filter p x xs ∙ ap (λ b. b && p x) once.0, AreOnce-filter p xs once.1))
    (λ _. AreOnce-filter p xs once.1)

pub AreOnce-append : (xs ys : List Key) → AreOnce xs → AreOnce ys → ((key : Key) → has_key key xs ≡ true → has_key key ys ≡ false)
    → AreOnce (xs ++ ys)
AreOnce-append [] ys once other apart = other
AreOnce-append (x ∷ xs) ys once other apart = (
  has_key-append x xs ys ∙ ap (λ b. b || has_key x ys) once.0 ∙ apart x (ap (λ b. b || has_key x xs) (key_eq-refl x)),
  AreOnce-append xs ys once.1 other (λ key there. apart key (or_there (key_eq key x) (has_key key xs) there)),
)

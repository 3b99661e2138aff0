-- The keys that are found for the hints are those of the hinted knotes.
use Rattle.std.proofs.Common.{◌≡◌, Bool, true, false, cond, ◌||◌, List, [], ◌∷◌, ◌++◌, map, filter, None, Some, refl, sym, ap, ◌∙◌}
use Rattle.std.proofs.lemmas.List.Folds.{list_any-append}
use Rattle.std.proofs.lemmas.Option.{none-some, same_Some}
use Rattle.std.specs.List.{list_any}
use Rattle.kq_model.specs.declared.key.Key.{Key}
use Rattle.kq_model.specs.declared.object.Target.{Target}
use Rattle.kq_model.specs.Tallying.{tallying}
use Rattle.kq_model.specs.Knote.{key_eq, find_knote}
use Rattle.kq_model.specs.Kqueue.{HaveOwnKeys}
use Rattle.kq_model.specs.Tallied.{Knote}
use Rattle.kq_model.specs.Targets.{Posted, is_target}
use Rattle.kq_model.proofs.KeyLaws.{same_key, key_eq-refl}
use Rattle.kq_model.proofs.KnoteLaws.{by_test, find_knote-none, find_knote-here, find_knote-later, find_knote-head, find_knote-tail}
use Rattle.kq_knote.specs.Index.{is_shared, is_hinted, AreHinted, hinted_keys}
use Rattle.kq_knote.proofs.IndexLaws.{rows_watching, watching-knotes}
use Rattle.kq_knote.proofs.RowLaws.{key_of, same, waits_in-keys}
use Rattle.kq_table.specs.Rows.{is_among}

abbrev pub keys_where : (Knote → Bool) → List Knote → List Key
keys_where p ks = map key_of (filter p ks)

-- ---- among the keys of the knotes that pass

any-none : (p : Knote → Bool) (ks : List Knote) (key : Key) → find_knote key ks ≡ None → list_any (key_eq key) (keys_where p ks) ≡ false
any-none p [] key absent = refl
any-none p (x ∷ ks) key absent =
    let rest = any-none p ks key (find_knote-tail key x ks absent) in
    by_test (λ b. list_any (key_eq key) (map key_of (cond b (x ∷ filter p ks) (filter p ks))) ≡ false) (p x)
    (λ _. ap (λ b. b || list_any (key_eq key) (keys_where p ks)) (find_knote-head key x ks absent) ∙ rest)
    (λ _. rest)

-- a knote's key is there just where the knote passes
pub any-where : (p : Knote → Bool) (ks : List Knote) (k : Knote) → HaveOwnKeys ks → find_knote k.key ks ≡ Some k → list_any (key_eq k.key) (keys_where p ks) ≡ p k
any-where p [] k own found = absurd (none-some k (sym (find_knote-none tallying k.key) ∙ found))
any-where p (x ∷ ks) k own found =
    by_test (λ b. key_eq k.key x.key ≡ b → list_any (key_eq k.key) (keys_where p (x ∷ ks)) ≡ p k) (key_eq k.key x.key)
    (λ _ here.
    let it : x ≡ k = same_Some x k (sym (find_knote-here k.key x ks here) ∙ found) in
    let gone : find_knote k.key ks ≡ None = ap (λ (n : Knote). find_knote n.key ks) (sym it) ∙ own.0 in
    by_test (λ b. p x ≡ b → list_any (key_eq k.key) (map key_of (cond b (x ∷ filter p ks) (filter p ks))) ≡ p k) (p x)
    (λ _ on. ap (λ b. b || list_any (key_eq k.key) (keys_where p ks)) here ∙ sym (ap p (sym it) ∙ on))
    (λ _ off. any-none p ks k.key gone ∙ sym (ap p (sym it) ∙ off)) refl)
    (λ _ apart.
    let rest = any-where p ks k own.1 (sym (find_knote-later k.key x ks apart) ∙ found) in
    by_test (λ b. list_any (key_eq k.key) (map key_of (cond b (x ∷ filter p ks) (filter p ks))) ≡ p k) (p x)
    (λ _. ap (λ b. b || list_any (key_eq k.key) (keys_where p ks)) apart ∙ rest)
    (λ _. rest))
    refl

-- ---- one hint more

-- the keys of the knotes of its target are found
pub AreHinted-more : (ks : List Knote) → HaveOwnKeys ks → (before more : List Posted) (target : Target)
    → ((k : Knote) → is_hinted more k ≡ (is_hinted before k || is_target k.target target)) → is_shared (Some target) ≡ true
    → (found : List Key) → AreHinted before ks found → AreHinted more ks (found ++ rows_watching target ks)
AreHinted-more ks own before more target more_is shared found are k there =
    list_any-append (key_eq k.key) found (rows_watching target ks)
    ∙ ap (λ b. b || list_any (key_eq k.key) (rows_watching target ks)) (are k there)
    ∙ ap (λ b. is_hinted before k || b)
    (ap (list_any (key_eq k.key)) (watching-knotes target shared ks) ∙ any-where (λ (n : Knote). is_target n.target target) ks k own there)
    ∙ sym (more_is k)

-- ---- the knotes of these keys, in order

apart-here : (x : Knote) (ks : List Knote) (k : Knote) → find_knote x.key ks ≡ None → find_knote k.key ks ≡ Some k → key_eq k.key x.key ≡ false
apart-here x ks k absent found =
    by_test (λ b. key_eq k.key x.key ≡ b → b ≡ false) (key_eq k.key x.key)
    (λ _ is. absurd (none-some k (sym absent ∙ ap (λ key. find_knote key ks) (sym (same_key k.key x.key is)) ∙ found)))
    (λ _ _. refl) refl

pub filter-same : (f p : Knote → Bool) (ks : List Knote) → HaveOwnKeys ks → ((k : Knote) → find_knote k.key ks ≡ Some k → f k ≡ p k) → filter f ks ≡ filter p ks
filter-same f p [] own agree = refl
filter-same f p (x ∷ ks) own agree =
    ap (λ b. cond b (x ∷ filter f ks) (filter f ks)) (agree x (find_knote-here x.key x ks (key_eq-refl x.key)))
    ∙ ap (λ rest. cond (p x) (x ∷ rest) rest) (filter-same f p ks own.1 (λ k found. agree k (find_knote-later k.key x ks (apart-here x ks k own.0 found) ∙ found)))

pub hinted-in_order : (posted : List Posted) (ks : List Knote) → HaveOwnKeys ks → (found : List Key) → AreHinted posted ks found
    → map key_of (filter (is_among same key_of found) ks) ≡ hinted_keys posted ks
hinted-in_order posted ks own found are =
    ap (map key_of) (filter-same (is_among same key_of found) (is_hinted posted) ks own (λ k there. waits_in-keys k.key found ∙ are k there))

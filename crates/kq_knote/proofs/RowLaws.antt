-- Knotes as the rows of a table, with their keys as its queue: its words are those on knotes.
use Rattle.std.proofs.Common.{◌≡◌, Bool, cond, not, List, [], ◌∷◌, ◌++◌, map, filter, Option, None, Some, slice_get, rules, refl, sym, ap, ◌∙◌}
use Rattle.std.specs.List.{list_any}
use Rattle.std.specs.Option.{is_some, MatchOption}
use Rattle.kq_model.specs.contracts.key.KeyPartialEq.TheImpl as key_equal
use Rattle.kq_model.specs.declared.key.Key.{Key}
use Rattle.kq_model.specs.Knote.{key_eq, find_knote, has_key, queued, with_knote, without_key, without_knote}
use Rattle.kq_model.specs.Tallied.{Knote}
use Rattle.kq_table.specs.declared.placed.Placed.{Placed}
use Rattle.kq_table.specs.Rows.{enqueued, find_row, key_behind, put_in, row_after, rows_behind, waits_in, with_first, with_row, without_row, without_waiting}

abbrev pub key_of : Knote → Key
key_of k = k.key

-- whether two keys are one, as the code tells it
abbrev pub same : Key → Key → Bool
same = key_equal.eq-value.it

pub same_is : (a b : Key) → same a b ≡ key_eq a b
same_is a b = search rules

-- ---- rows

pub find_row-knotes : (key : Key) (ks : List Knote) → find_row same key_of key ks ≡ find_knote key ks
unfolding find_row find_knote
find_row-knotes key [] = refl
find_row-knotes key (x ∷ ks) =
    ap (λ b. cond b (Some x) (find_row same key_of key ks)) (same_is key x.key)
    ∙ ap (λ rest. cond (key_eq key x.key) (Some x) rest) (find_row-knotes key ks)

pub row_after-knotes : (key : Key) (ks : List Knote) → row_after same key_of key ks ≡ row_after key_eq key_of key ks
unfolding row_after
row_after-knotes key [] = refl
row_after-knotes key (x ∷ ks) =
    ap (λ b. cond b (slice_get ks 0) (row_after same key_of key ks)) (same_is key x.key)
    ∙ ap (λ rest. cond (key_eq key x.key) (slice_get ks 0) rest) (row_after-knotes key ks)

pub rows_behind-knotes : (key : Key) (ks : List Knote) → rows_behind same key_of key ks ≡ rows_behind key_eq key_of key ks
unfolding rows_behind
rows_behind-knotes key [] = refl
rows_behind-knotes key (x ∷ ks) =
    ap (λ b. cond b ks (rows_behind same key_of key ks)) (same_is key x.key)
    ∙ ap (λ rest. cond (key_eq key x.key) ks rest) (rows_behind-knotes key ks)

pub with_row-knotes : (knote : Knote) (ks : List Knote) → with_row same key_of knote ks ≡ with_knote knote ks
with_row-knotes knote ks = λ i. map (λ (k : Knote). cond (same_is knote.key k.key i) knote k) ks

pub without_row-knotes : (key : Key) (ks : List Knote) → without_row same key_of key ks ≡ without_knote key ks
without_row-knotes key ks = λ i. filter (λ (k : Knote). not (same_is key k.key i)) ks

-- ---- the queue

pub waits_in-keys : (key : Key) (q : List Key) → waits_in same key q ≡ has_key key q
waits_in-keys key q = λ i. list_any (λ (other : Key). same_is key other i) q

pub without_waiting-keys : (key : Key) (q : List Key) → without_waiting same key q ≡ without_key key q
without_waiting-keys key q = λ i. filter (λ (other : Key). not (same_is key other i)) q

pub put_in-knotes : (key : Key) (ks : List Knote) (q : List Key)
    → put_in same key_of key ks q ≡ cond (is_some (find_knote key ks)) (queued key q) q
put_in-knotes key ks q =
    ap (λ o. cond (is_some o) (enqueued same key q) q) (find_row-knotes key ks)
    ∙ ap (λ b. cond (is_some (find_knote key ks)) (cond b q (q ++ key ∷ [])) q) (waits_in-keys key q)

pub with_first-keys : (key : Key) (q : List Key)
    → with_first same key q ≡ cond (has_key key q) (key ∷ without_key key q) q
with_first-keys key q =
    ap (λ (rest : List Key). cond (waits_in same key q) (key ∷ rest) q) (without_waiting-keys key q)
    ∙ ap (λ b. cond b (key ∷ without_key key q) q) (waits_in-keys key q)

pub key_behind-keys : (key : Key) (q : List Key) → key_behind same key q ≡ key_behind key_eq key q
unfolding key_behind
key_behind-keys key [] = refl
key_behind-keys key (x ∷ q) =
    ap (λ b. cond b (slice_get q 0) (key_behind same key q)) (same_is key x)
    ∙ ap (λ (rest : Option Key). cond (key_eq key x) (slice_get q 0) rest) (key_behind-keys key q)

abbrev IsEmptied : List Key → List Key → Type 0
IsEmptied before after = (before ≡ []) × (after ≡ [])

-- the knote whose key was taken from the front
pub taken-knote : (o : Option (Placed Knote)) (before after : List Key) (ks : List Knote)
    → MatchOption o (IsEmptied before after) (λ (p : Placed Knote). (before ≡ p.row.key ∷ after) × (find_row same key_of p.row.key ks ≡ Some p.row))
    → MatchOption o (IsEmptied before after) (λ (p : Placed Knote). (before ≡ p.row.key ∷ after) × (find_knote p.row.key ks ≡ Some p.row))
taken-knote None before after ks fact = fact
taken-knote (Some p) before after ks fact = (fact.0, sym (find_row-knotes p.row.key ks) ∙ fact.1)

-- the knote whose key is at the front
pub front-knote : (o : Option Knote) (queue : List Key) (ks : List Knote)
    → MatchOption o (queue ≡ []) (λ (k : Knote). (slice_get queue 0 ≡ Some k.key) × (find_row same key_of k.key ks ≡ Some k))
    → MatchOption o (queue ≡ []) (λ (k : Knote). (slice_get queue 0 ≡ Some k.key) × (find_knote k.key ks ≡ Some k))
front-knote None queue ks fact = fact
front-knote (Some k) queue ks fact = (fact.0, sym (find_row-knotes k.key ks) ∙ fact.1)

-- What the table finds by target are the knotes that hints are for.
use Rattle.std.proofs.Common.{◌≡◌, Bool, true, cond, List, [], ◌∷◌, map, filter, Option, None, Some, slice_get, refl, sym, ap, ap₂, ◌∙◌}
use Rattle.std.proofs.lemmas.Bool.{true≢false}
use Rattle.kq_model.specs.declared.key.Key.{Key}
use Rattle.kq_model.specs.declared.object.Target.{Target}
use Rattle.kq_model.specs.Knote.{find_knote}
use Rattle.kq_model.specs.Tallied.{Knote}
use Rattle.kq_model.specs.Targets.{Posted, is_target}
use Rattle.kq_model.proofs.KnoteLaws.{by_test, find_knote-head, find_knote-tail}
use Rattle.kq_model.proofs.NumberLaws.{filter_same}
use Rattle.kq_model.proofs.SameTarget.{same_target}
use Rattle.kq_knote.specs.Index.{is_shared, is_hinted, first_hinted, hinted_keys, behind, shared_of, IsHinted, IsOnly, keys_watching}
use Rattle.kq_knote.proofs.RowLaws.{key_of, same, find_row-knotes, rows_behind-knotes}
use Rattle.kq_knote.proofs.TargetLaws.{alike, alike-shared}
use Rattle.kq_table.specs.Links as links
use Rattle.kq_table.specs.Rows.{rows_behind}

abbrev pub with_key : Knote → List Key → Bool → List Key
with_key k rest b = cond b (k.key ∷ rest) rest

pub keys-cons : (p : Knote → Bool) (k : Knote) (ks : List Knote) → map (λ (n : Knote). n.key) (filter p (k ∷ ks)) ≡ with_key k (map (λ (n : Knote). n.key) (filter p ks)) (p k)
keys-cons p k ks =
    by_test (λ b. map (λ (n : Knote). n.key) (cond b (k ∷ filter p ks) (filter p ks)) ≡ with_key k (map (λ (n : Knote). n.key) (filter p ks)) b) (p k)
    (λ _. refl) (λ _. refl)

-- behind a knote that is not there is none
behind-absent : (key : Key) (ks : List Knote) → find_knote key ks ≡ None → behind key ks ≡ []
unfolding rows_behind
behind-absent key [] absent = refl
behind-absent key (k ∷ ks) absent =
    ap (λ b. cond b ks (behind key ks)) (find_knote-head key k ks absent) ∙ behind-absent key ks (find_knote-tail key k ks absent)

-- the keys of the rows that the table finds by a target
abbrev pub rows_watching : Target → List Knote → List Key
rows_watching target ks = links.keys_watching alike key_of shared_of target ks

pub watching-knotes : (target : Target) → is_shared (Some target) ≡ true → (ks : List Knote) → rows_watching target ks ≡ keys_watching target ks
watching-knotes target shared ks = λ i. map key_of (filter (λ (k : Knote). alike-shared target k.target shared i) ks)

-- ---- where all hints are for one target

module _ (posted : List Posted) (target : Target) (only : IsOnly target posted) where
  -- all that the table finds
  pub keys-only : (ks : List Knote) → rows_watching target ks ≡ hinted_keys posted ks
  keys-only ks =
      watching-knotes target only.0 ks
      ∙ ap (map key_of) (filter_same (λ (k : Knote). is_target k.target target) (is_hinted posted) (λ k. sym (only.1 k)) ks)

  -- the first of them
  pub first-only : (ks : List Knote) → slice_get (rows_watching target ks) 0 ≡ first_hinted posted ks
  first-only ks = ap (λ (keys : List Key). slice_get keys 0) (keys-only ks)

  only-target : (k : Knote) → is_hinted posted k ≡ true → k.target ≡ Some target
  unfolding is_target
  only-target k is = watched k.target (sym (only.1 k) ∙ is)
    where
      watched : (o : Option Target) → is_target o target ≡ true → o ≡ Some target
      watched None e = absurd (true≢false (sym e))
      watched (Some other) e = ap (λ t. Some t) (same_target other target e)

  only-shared_of : (k : Knote) → is_hinted posted k ≡ true → shared_of k ≡ Some target
  only-shared_of k is =
      ap (λ (o : Option Target). cond (is_shared o) o None) (only-target k is)
      ∙ ap (λ b. cond b (Some target) None) only.0

  -- and the next
  next-found : (key : Key) (ks : List Knote) → IsHinted posted key ks → (o : Option Knote) → find_knote key ks ≡ o
      → links.first_alike alike key_of shared_of o (behind key ks) ≡ first_hinted posted (behind key ks)
  next-found key ks hinted None absent = ap (first_hinted posted) (sym (behind-absent key ks absent))
  next-found key ks hinted (Some k) found =
      ap (λ (o : Option Target). links.first_watching alike key_of shared_of o (behind key ks)) (only-shared_of k (hinted k found))
      ∙ first-only (behind key ks)

  pub next-only : (key : Key) (ks : List Knote) → IsHinted posted key ks
      → links.next_watching alike key_of shared_of same key ks ≡ first_hinted posted (behind key ks)
  next-only key ks hinted =
      ap₂ (λ (o : Option Knote) (rest : List Knote). links.first_alike alike key_of shared_of o rest) (find_row-knotes key ks) (rows_behind-knotes key ks)
      ∙ next-found key ks hinted (find_knote key ks) refl

-- Lists of knotes: what is found after one was attached, replaced or taken out, and that keys stay apart.
use Rattle.std.proofs.Common.{◌≡◌, Bool, true, false, cond, not, List, [], ◌∷◌, ◌++◌, Option, Some, None, refl, sym, ap, ◌∙◌, subst}
use Rattle.std.proofs.lemmas.Option.{none-some, same_Some}
use Rattle.std.specs.Option.{option_map}
use Rattle.kq_model.specs.declared.key.Key.{Key}
use Rattle.kq_model.specs.Hearing.{Hearing}
use Rattle.kq_model.specs.Knote.{Knote, key_eq, find_knote, with_knote, without_knote}
use Rattle.kq_model.specs.Kqueue.{HaveOwnKeys}
use Rattle.kq_model.proofs.KeyLaws.{same_key, key_eq-refl, key_eq-sym, key_eq-apart}

-- a test that was made: the goal at its answer, with what it tells
pub by_test : (P : Bool → Type 0) (b : Bool) → (b ≡ true → P true) → (b ≡ false → P false) → P b
by_test P true at_true at_false = at_true refl
by_test P false at_true at_false = at_false refl

pub find_knote-none : {S : Type 0} (h : Hearing S) (key : Key) → find_knote {h = h} key [] ≡ None
unfolding find_knote
find_knote-none h key = refl

module _ {S : Type 0} {h : Hearing S} where
  abbrev found_at : Key → Knote h → List (Knote h) → Bool → Option (Knote h)
  found_at key k ks b = cond b (Some k) (find_knote key ks)

  -- the first that was found, or else the second
  abbrev pub found_or : Option (Knote h) → Option (Knote h) → Option (Knote h)
  found_or (Some k) other = Some k
  found_or None other = other

  -- what is found is of the key
  pub find_knote-key : (key : Key) (ks : List (Knote h)) (k : Knote h) → find_knote key ks ≡ Some k → key ≡ k.key
  unfolding find_knote
  find_knote-key key [] k e = absurd (none-some k e)
  find_knote-key key (x ∷ ks) k e =
      by_test (λ b. found_at key x ks b ≡ Some k → key ≡ k.key) (key_eq key x.key)
      (λ same f. same_key key x.key same ∙ ap (λ (n : Knote h). n.key) (same_Some x k f))
      (λ _ f. find_knote-key key ks k f) e

  -- nothing of the key is at the head of a list where it is not found
  pub find_knote-head : (key : Key) (x : Knote h) (ks : List (Knote h)) → find_knote key (x ∷ ks) ≡ None → key_eq key x.key ≡ false
  unfolding find_knote
  find_knote-head key x ks e =
      by_test (λ b. found_at key x ks b ≡ None → b ≡ false) (key_eq key x.key)
      (λ _ f. absurd (none-some x (sym f))) (λ _ _. refl) e

  pub find_knote-tail : (key : Key) (x : Knote h) (ks : List (Knote h)) → find_knote key (x ∷ ks) ≡ None → find_knote key ks ≡ None
  unfolding find_knote
  find_knote-tail key x ks e =
      by_test (λ b. found_at key x ks b ≡ None → find_knote key ks ≡ None) (key_eq key x.key)
      (λ _ f. absurd (none-some x (sym f))) (λ _ f. f) e

  pub find_knote-here : (key : Key) (x : Knote h) (ks : List (Knote h)) → key_eq key x.key ≡ true → find_knote key (x ∷ ks) ≡ Some x
  unfolding find_knote
  find_knote-here key x ks same = ap (found_at key x ks) same

  pub find_knote-later : (key : Key) (x : Knote h) (ks : List (Knote h)) → key_eq key x.key ≡ false → find_knote key (x ∷ ks) ≡ find_knote key ks
  unfolding find_knote
  find_knote-later key x ks apart = ap (found_at key x ks) apart

  pub find_knote-append : (key : Key) (ks more : List (Knote h)) → find_knote key (ks ++ more) ≡ found_or (find_knote key ks) (find_knote key more)
  unfolding find_knote
  find_knote-append key [] more = refl
  find_knote-append key (x ∷ ks) more =
      by_test (λ b. found_at key x (ks ++ more) b ≡ found_or (found_at key x ks b) (find_knote key more)) (key_eq key x.key)
      (λ _. refl) (λ _. find_knote-append key ks more)

  -- ---- a knote in the place of the one of its key

  abbrev put : Knote h → Knote h → Bool → Knote h
  put k x b = cond b k x

  pub find_knote-with_same : (k : Knote h) (ks : List (Knote h)) → find_knote k.key (with_knote k ks) ≡ option_map (λ _. k) (find_knote k.key ks)
  unfolding find_knote
  find_knote-with_same k [] = refl
  find_knote-with_same k (x ∷ ks) =
      by_test (λ b. found_at k.key (put k x b) (with_knote k ks) (key_eq k.key (put k x b).key) ≡ option_map (λ _. k) (found_at k.key x ks b)) (key_eq k.key x.key)
      (λ _. ap (found_at k.key k (with_knote k ks)) (key_eq-refl k.key))
      (λ apart. ap (found_at k.key x (with_knote k ks)) apart ∙ find_knote-with_same k ks)

  pub find_knote-with_other : (key : Key) (k : Knote h) (ks : List (Knote h)) → key_eq k.key key ≡ false → find_knote key (with_knote k ks) ≡ find_knote key ks
  unfolding find_knote
  find_knote-with_other key k [] other = refl
  find_knote-with_other key k (x ∷ ks) other =
      by_test (λ b. found_at key (put k x b) (with_knote k ks) (key_eq key (put k x b).key) ≡ found_at key x ks (key_eq key x.key)) (key_eq k.key x.key)
      (λ same. ap (found_at key k (with_knote k ks)) (key_eq-sym key k.key ∙ other) ∙ find_knote-with_other key k ks other ∙ sym (ap (found_at key x ks) (key_eq-apart key k.key x.key other same)))
      (λ _. ap (λ f. cond (key_eq key x.key) (Some x) f) (find_knote-with_other key k ks other))

  pub find_knote-with_none : (key : Key) (k : Knote h) (ks : List (Knote h)) → find_knote key ks ≡ None → find_knote key (with_knote k ks) ≡ None
  find_knote-with_none key k ks absent =
      by_test (λ b. key_eq k.key key ≡ b → find_knote key (with_knote k ks) ≡ None) (key_eq k.key key)
      (λ _ same. let at = same_key k.key key same in
      subst (λ (other : Key). find_knote other ks ≡ None → find_knote other (with_knote k ks) ≡ None) at
      (λ none. find_knote-with_same k ks ∙ ap (option_map (λ _. k)) none) absent)
      (λ _ apart. find_knote-with_other key k ks apart ∙ absent) refl

  -- with no knote of its key nothing is replaced
  pub with_knote-absent : (k : Knote h) (ks : List (Knote h)) → find_knote k.key ks ≡ None → with_knote k ks ≡ ks
  with_knote-absent k [] absent = refl
  with_knote-absent k (x ∷ ks) absent =
      ap (λ b. put k x b ∷ with_knote k ks) (find_knote-head k.key x ks absent) ∙ ap (λ rest. x ∷ rest) (with_knote-absent k ks (find_knote-tail k.key x ks absent))

  -- a knote that is there takes its own place
  pub with_knote-own : (k : Knote h) (ks : List (Knote h)) → HaveOwnKeys ks → find_knote k.key ks ≡ Some k → with_knote k ks ≡ ks
  unfolding find_knote
  with_knote-own k [] own found = refl
  with_knote-own k (x ∷ ks) own found =
      by_test (λ b. key_eq k.key x.key ≡ b → found_at k.key x ks b ≡ Some k → put k x b ∷ with_knote k ks ≡ x ∷ ks) (key_eq k.key x.key)
      (λ _ same here.
      let absent = subst (λ (key : Key). find_knote key ks ≡ None) (sym (same_key k.key x.key same)) own.0 in
      ap (λ rest. k ∷ rest) (with_knote-absent k ks absent) ∙ ap (λ (n : Knote h). n ∷ ks) (sym (same_Some x k here)))
      (λ _ _ there. ap (λ rest. x ∷ rest) (with_knote-own k ks own.1 there)) refl found

  -- ---- a knote taken out

  abbrev kept : Knote h → List (Knote h) → Bool → List (Knote h)
  kept x rest b = cond (not b) (x ∷ rest) rest

  pub find_knote-without_same : (gone : Key) (ks : List (Knote h)) → find_knote gone (without_knote gone ks) ≡ None
  unfolding find_knote
  find_knote-without_same gone [] = refl
  find_knote-without_same gone (x ∷ ks) =
      by_test (λ b. find_knote gone (kept x (without_knote gone ks) b) ≡ None) (key_eq gone x.key)
      (λ _. find_knote-without_same gone ks)
      (λ apart. find_knote-later gone x (without_knote gone ks) apart ∙ find_knote-without_same gone ks)

  pub find_knote-without_other : (key gone : Key) (ks : List (Knote h)) → key_eq gone key ≡ false → find_knote key (without_knote gone ks) ≡ find_knote key ks
  unfolding find_knote
  find_knote-without_other key gone [] other = refl
  find_knote-without_other key gone (x ∷ ks) other =
      by_test (λ b. find_knote key (kept x (without_knote gone ks) b) ≡ find_knote key (x ∷ ks)) (key_eq gone x.key)
      (λ same. find_knote-without_other key gone ks other ∙ sym (find_knote-later key x ks (key_eq-apart key gone x.key other same)))
      (λ _. ap (λ f. cond (key_eq key x.key) (Some x) f) (find_knote-without_other key gone ks other))

  pub find_knote-without_none : (key gone : Key) (ks : List (Knote h)) → find_knote key ks ≡ None → find_knote key (without_knote gone ks) ≡ None
  find_knote-without_none key gone ks absent =
      by_test (λ b. key_eq gone key ≡ b → find_knote key (without_knote gone ks) ≡ None) (key_eq gone key)
      (λ _ same. subst (λ (other : Key). find_knote other (without_knote gone ks) ≡ None) (same_key gone key same) (find_knote-without_same gone ks))
      (λ _ apart. find_knote-without_other key gone ks apart ∙ absent) refl

  -- with no knote of the key nothing is taken out
  pub without_knote-absent : (gone : Key) (ks : List (Knote h)) → find_knote gone ks ≡ None → without_knote gone ks ≡ ks
  without_knote-absent gone [] absent = refl
  without_knote-absent gone (x ∷ ks) absent =
      ap (kept x (without_knote gone ks)) (find_knote-head gone x ks absent)
      ∙ ap (λ rest. x ∷ rest) (without_knote-absent gone ks (find_knote-tail gone x ks absent))

  -- ---- keys stay apart

  pub HaveOwnKeys-append : (ks : List (Knote h)) (k : Knote h) → HaveOwnKeys ks → find_knote k.key ks ≡ None → HaveOwnKeys (ks ++ k ∷ [])
  HaveOwnKeys-append [] k own absent = (find_knote-none h k.key, tt)
  HaveOwnKeys-append (x ∷ ks) k own absent = (
    find_knote-append x.key ks (k ∷ []) ∙ ap (λ f. found_or f (find_knote x.key (k ∷ []))) own.0
        ∙ find_knote-later x.key k [] (key_eq-sym x.key k.key ∙ find_knote-head k.key x ks absent) ∙ find_knote-none h x.key,
    HaveOwnKeys-append ks k own.1 (find_knote-tail k.key x ks absent),
  )

  pub HaveOwnKeys-with : (k : Knote h) (ks : List (Knote h)) → HaveOwnKeys ks → HaveOwnKeys (with_knote k ks)
  HaveOwnKeys-with k [] own = tt
  HaveOwnKeys-with k (x ∷ ks) own = (
    by_test (λ b. key_eq k.key x.key ≡ b → find_knote (put k x b).key (with_knote k ks) ≡ None) (key_eq k.key x.key)
        (λ _ same. subst (λ (key : Key). find_knote key (with_knote k ks) ≡ None) (sym (same_key k.key x.key same)) (find_knote-with_none x.key k ks own.0))
        (λ _ _. find_knote-with_none x.key k ks own.0) refl,
    HaveOwnKeys-with k ks own.1,
  )

  pub HaveOwnKeys-without : (gone : Key) (ks : List (Knote h)) → HaveOwnKeys ks → HaveOwnKeys (without_knote gone ks)
  HaveOwnKeys-without gone [] own = tt
  HaveOwnKeys-without gone (x ∷ ks) own =
      by_test (λ b. HaveOwnKeys (kept x (without_knote gone ks) b)) (key_eq gone x.key)
      (λ _. HaveOwnKeys-without gone ks own.1)
      (λ _. (find_knote-without_none x.key gone ks own.0, HaveOwnKeys-without gone ks own.1))

-- What holds of all knotes of a list, after the operations on it.
use Rattle.std.proofs.Common.{◌≡◌, false, cond, not, List, [], ◌∷◌, Option, Some, None, refl, subst}
use Rattle.std.proofs.lemmas.Bool.{cond_both}
use Rattle.std.proofs.lemmas.List.Elements.{All-nil, All-cons, All-head, All-tail, All-filter}
use Rattle.std.specs.List.{All}
use Rattle.kq_model.specs.declared.key.Key.{Key}
use Rattle.kq_model.specs.Knote.{key_eq, find_knote, with_knote, without_knote}
use Rattle.kq_model.specs.Tallied.{Knote}
use Rattle.kq_model.proofs.KnoteLaws.{by_test}

module _ (P : Knote → Type 0) where
  pub with_knote-all : (k : Knote) (ks : List Knote) → P k → All P ks → All P (with_knote k ks)
  with_knote-all k [] has all = All-nil P
  with_knote-all k (x ∷ ks) has all =
      All-cons P (cond (key_eq k.key x.key) k x) (with_knote k ks)
      (cond_both (key_eq k.key x.key) k x P (λ _. has) (λ _. All-head P x ks all))
      (with_knote-all k ks has (All-tail P x ks all))

  pub without_knote-all : (key : Key) (ks : List Knote) → All P ks → All P (without_knote key ks)
  without_knote-all key ks all = All-filter (λ k. not (key_eq key k.key)) P ks all

  abbrev IfThere : Option Knote → Type 0
  IfThere None = Unit {0}
  IfThere (Some k) = P k

  pub found-all : (key : Key) (ks : List Knote) → All P ks → IfThere (find_knote key ks)
  unfolding find_knote
  found-all key [] all = tt
  found-all key (k ∷ ks) all =
      cond_both (key_eq key k.key) (Some k) (find_knote key ks) IfThere
      (λ _. All-head P k ks all) (λ _. found-all key ks (All-tail P k ks all))

  pub found-is : (key : Key) (ks : List Knote) (k : Knote) → All P ks → find_knote key ks ≡ Some k → P k
  found-is key ks k all is = subst IfThere is (found-all key ks all)

-- what holds of the others may change
module _ (P Q : Knote → Type 0) where
  pub with_knote-others : (k : Knote) (ks : List Knote) → Q k → ((x : Knote) → key_eq k.key x.key ≡ false → P x → Q x)
      → All P ks → All Q (with_knote k ks)
  with_knote-others k [] has others all = All-nil Q
  with_knote-others k (x ∷ ks) has others all =
      All-cons Q (cond (key_eq k.key x.key) k x) (with_knote k ks)
      (cond_both (key_eq k.key x.key) k x Q (λ _. has) (λ apart. others x apart (All-head P x ks all)))
      (with_knote-others k ks has others (All-tail P x ks all))

  pub without_knote-others : (key : Key) (ks : List Knote) → ((x : Knote) → key_eq key x.key ≡ false → P x → Q x)
      → All P ks → All Q (without_knote key ks)
  without_knote-others key [] others all = All-nil Q
  without_knote-others key (x ∷ ks) others all =
      let rest = without_knote key ks in
      let later = without_knote-others key ks others (All-tail P x ks all) in
      by_test (λ b. key_eq key x.key ≡ b → All Q (cond (not b) (x ∷ rest) rest)) (key_eq key x.key) (λ _ _. later)
      (λ _ apart. All-cons Q x rest (others x apart (All-head P x ks all)) later) refl

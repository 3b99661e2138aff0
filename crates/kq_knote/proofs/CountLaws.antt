-- Keys that differ and are all of some knote are no more than the knotes.
use Rattle.std.proofs.Common.{◌≡◌, ℕ, suc, ◌+◌, ◌≤◌, Bool, true, false, cond, not, List, [], ◌∷◌, length, Option, None, Some, ap, refl, sym, ◌∙◌, subst, arith}
use Rattle.std.proofs.lemmas.List.{length-map}
use Rattle.std.proofs.lemmas.Option.{none-some}
use Rattle.std.specs.Option.{MatchOption}
use Rattle.std.proofs.lemmas.Bool.{or_right, or_left, true≢false}
use Rattle.kq_model.specs.declared.key.Key.{Key}
use Rattle.kq_model.specs.Knote.{key_eq, has_key, find_knote, without_knote, with_knote}
use Rattle.kq_model.specs.Kqueue.{AreOnce, HaveOwnKeys}
use Rattle.kq_model.specs.Tallying.{tallying}
use Rattle.kq_model.specs.Tallied.{Knote}
use Rattle.kq_model.proofs.KeyLaws.{same_key, key_eq-refl}
use Rattle.kq_model.proofs.KnoteLaws.{by_test, find_knote-none, find_knote-later, find_knote-without_other, without_knote-absent}

abbrev kept : Knote → List Knote → Bool → List Knote
kept x rest b = cond (not b) (x ∷ rest) rest

pub length-without_knote : (gone : Key) (ks : List Knote) → length (without_knote gone ks) ≤ length ks
length-without_knote gone [] = omega arith
length-without_knote gone (x ∷ ks) =
    by_test (λ b. length (kept x (without_knote gone ks) b) ≤ suc (length ks)) (key_eq gone x.key)
    (λ _. omega (arith, length-without_knote gone ks))
    (λ _. omega (arith, length-without_knote gone ks))

-- where there is one, one is taken out
length-without_present : (gone : Key) (ks : List Knote) → (find_knote gone ks ≡ None → ⊥)
    → length (without_knote gone ks) + 1 ≤ length ks
length-without_present gone [] present = absurd (present (find_knote-none tallying gone))
length-without_present gone (x ∷ ks) present =
    by_test (λ b. key_eq gone x.key ≡ b → length (kept x (without_knote gone ks) b) + 1 ≤ suc (length ks))
    (key_eq gone x.key)
    (λ _ _. omega (arith, length-without_knote gone ks))
    (λ _ apart. omega
    (arith, length-without_present gone ks (λ none. present (find_knote-later gone x ks apart ∙ none)))) refl

-- where keys differ, just that one
pub length-without_one : (gone : Key) (ks : List Knote) (k : Knote) → HaveOwnKeys ks → find_knote gone ks ≡ Some k
    → length (without_knote gone ks) + 1 ≡ length ks
length-without_one gone [] k own here = absurd (none-some k (sym (find_knote-none tallying gone) ∙ here))
length-without_one gone (x ∷ ks) k own here =
    by_test (λ b. key_eq gone x.key ≡ b → length (kept x (without_knote gone ks) b) + 1 ≡ suc (length ks))
    (key_eq gone x.key)
    (λ _ same. omega (
      arith,
      ap (length {A = Knote})
          (without_knote-absent gone ks (ap (λ o. find_knote o ks) (same_key gone x.key same) ∙ own.0)),
    ))
    (λ _ apart. omega (arith, length-without_one gone ks k own.1 (sym (find_knote-later gone x ks apart) ∙ here))) refl

pub length-keys : (q : List Key) (ks : List Knote) → AreOnce q
    → ((key : Key) → has_key key q ≡ true → find_knote key ks ≡ None → ⊥) → length q ≤ length ks
length-keys [] ks once present = omega arith
length-keys (k ∷ q) ks once present =
    let here : find_knote k ks ≡ None → ⊥ = present k (or_left (key_eq k k) (has_key k q) (key_eq-refl k)) in
    let rest : length q ≤ length (without_knote k ks) =
    length-keys q (without_knote k ks) once.1 (λ key there none.
    by_test (λ b. key_eq k key ≡ b → ⊥) (key_eq k key)
    (λ _ same. true≢false (sym there ∙ subst (λ (other : Key). has_key other q ≡ false) (same_key k key same) once.0))
    (λ _ apart. present key (or_right (key_eq key k) (has_key key q) there)
    (sym (find_knote-without_other key k ks apart) ∙ none)) refl) in
    omega (arith, length-without_present k ks here)

pub length-with_knote : (k : Knote) (ks : List Knote) → length (with_knote k ks) ≡ length ks
length-with_knote k ks = length-map ks (λ other. cond (key_eq k.key other.key) k other)

-- a knote that is taken out gives its room back
pub limit-without_knote : (gone : Key) (ks : List Knote) (found : Option Knote) (room left : ℕ) → HaveOwnKeys ks
    → found ≡ find_knote gone ks → MatchOption found (left ≡ room) (λ _. left ≡ room + 1)
    → length (without_knote gone ks) + left ≡ length ks + room
limit-without_knote gone ks None room left own is fact =
    omega (arith, fact, ap (length {A = Knote}) (without_knote-absent gone ks (sym is)))
limit-without_knote gone ks (Some k) room left own is fact =
    omega (arith, fact, length-without_one gone ks k own (sym is))

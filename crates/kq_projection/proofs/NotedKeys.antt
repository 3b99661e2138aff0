-- One key more among those that are gone through, and when two keys are the same.
use Rattle.std.proofs.Common.{◌≡◌, ◌∙◌, ◌<◌, ◌+◌, ◌||◌, ◌==◌, ℕ, Bool, true, false, length, get_or, take, List, [], ◌∷◌, refl, ap, ap₂, rules}
use Rattle.std.specs.List.{list_any}
use Rattle.std.proofs.lemmas.Bool.{and_parts, eqb-true}
use Rattle.std.proofs.lemmas.List.{take_more}
use Rattle.std.proofs.lemmas.List.Folds.{list_any-append}
use Rattle.kq_model.specs.declared.object.Target.{Target}
use Rattle.kq_model.specs.Targets.{target_eq}
use Rattle.kq_projection.specs.Keys.{pair_eq, target_key}

or_nothing : (b : Bool) → (b || false) ≡ b
or_nothing true = refl
or_nothing false = refl

pub any-more : {X : Type 0} (test : X → Bool) (xs : List X) (i : ℕ) (d : X) → i < length xs
    → list_any test (take (i + 1) xs) ≡ (list_any test (take i xs) || test (get_or xs i d))
any-more test xs i d below =
    ap (list_any test) (take_more xs i d below)
    ∙ list_any-append test (take i xs) (get_or xs i d ∷ [])
    ∙ ap (λ b. list_any test (take i xs) || b) (or_nothing (test (get_or xs i d)))

pub same-number : {V : Type 0} (read : ℕ → ℕ → V) (p : ℕ × ℕ) (pid number : ℕ) (here : V) → here ≡ read p.0 p.1 → pair_eq p (pid, number) ≡ true → here ≡ read pid number
same-number read p pid number here is same =
    let both = and_parts (p.0 == pid) (p.1 == number) same in
    is ∙ ap₂ read (eqb-true p.0 pid both.0) (eqb-true p.1 number both.1)

pub as_target : (a b : Target) → target_key a b ≡ target_eq a b
unfolding target_eq
as_target a b = search rules

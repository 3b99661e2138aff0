-- Whether two targets are one, as the code tells it; and the targets that are shared.
use Rattle.std.proofs.Common.{◌≡◌, Bool, true, false, cond, Option, None, Some, rules, refl, sym, ap, ◌∙◌}
use Rattle.std.proofs.lemmas.Bool.{true≢false}
use Rattle.std.specs.Option.{option_eq}
use Rattle.kq_model.specs.contracts.object.TargetPartialEq.TheImpl as target_equal
use Rattle.kq_model.specs.declared.object.Target.{Target}
use Rattle.kq_model.specs.Targets.{target_eq, is_target}
use Rattle.kq_model.proofs.KnoteLaws.{by_test}
use Rattle.kq_model.proofs.SameTarget.{same_target}
use Rattle.kq_knote.specs.Index.{is_shared}
use Rattle.kq_table.specs.Links as links

abbrev pub alike : Target → Target → Bool
alike = target_equal.eq-value.it

turned : (a b : Target) → alike a b ≡ target_eq b a
unfolding target_eq
turned a b = search rules

as_target : (a b : Target) → alike a b ≡ target_eq a b
unfolding target_eq
as_target a b = search rules

pub target-alike : (o : Option Target) (t : Target) → option_eq alike o (Some t) ≡ is_target o t
unfolding is_target
target-alike None t = search rules
target-alike (Some w) t = as_target w t

-- what shares none does not watch a target that is shared
pub unshared-apart : (target : Target) (o : Option Target) → is_shared (Some target) ≡ true → is_shared o ≡ false → is_target o target ≡ false
unfolding is_target
unshared-apart target None is apart = refl
unshared-apart target (Some other) is apart =
    by_test (λ b. target_eq other target ≡ b → b ≡ false) (target_eq other target)
    (λ _ one. absurd (true≢false (sym is ∙ ap (λ t. is_shared (Some t)) (sym (same_target other target one)) ∙ apart)))
    (λ _ _. refl) refl

alike-target : (t : Target) (o : Option Target) → links.is_target alike t o ≡ is_target o t
unfolding is_target
alike-target t None = refl
alike-target t (Some w) = turned t w

-- so a shared target is watched by those that watch it as what they share
pub alike-shared : (t : Target) (o : Option Target) → is_shared (Some t) ≡ true → links.is_target alike t (cond (is_shared o) o None) ≡ is_target o t
alike-shared t o shared =
    by_test (λ b. is_shared o ≡ b → links.is_target alike t (cond b o None) ≡ is_target o t) (is_shared o)
    (λ _ _. alike-target t o) (λ _ alone. sym (unshared-apart t o shared alone)) refl

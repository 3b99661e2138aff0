-- Two targets that the test finds equal are one.
use Rattle.std.proofs.Common.{◌≡◌, true, eqb, Option, Some, None, refl, ap, ap₂, subst, sym}
use Rattle.std.proofs.lemmas.Bool.{and_parts, and_from, eqb-true, eq-eqb, false≢true}
use Rattle.kq_model.specs.declared.object.Target.{Target}
use Rattle.kq_model.specs.declared.object.Target.TheVariants.{Socket, Pipe, Open, File, Process, Signal, Own}
use Rattle.kq_model.specs.Targets.{target_eq, is_target}

pub same_target : (a b : Target) → target_eq a b ≡ true → a ≡ b
unfolding target_eq
same_target (Socket a) (Socket b) e = ap Socket (eqb-true a b e)
same_target (Pipe a) (Pipe b) e = ap Pipe (eqb-true a b e)
same_target (Open a) (Open b) e = ap Open (eqb-true a b e)
same_target (File a) (File b) e = ap File (eqb-true a b e)
same_target (Process a) (Process b) e = ap Process (eqb-true a b e)
same_target (Signal pid a) (Signal other b) e =
    let parts = and_parts (eqb pid other) (eqb a b) e in
    ap₂ Signal (eqb-true pid other parts.0) (eqb-true a b parts.1)
same_target Own Own e = refl
same_target _ _ e = absurd (false≢true e)

-- what is watched, where it is this target
pub watched_is : (watched : Option Target) (t : Target) → is_target watched t ≡ true → watched ≡ Some t
unfolding is_target
watched_is None t e = absurd (false≢true e)
watched_is (Some w) t e = ap Some (same_target w t e)

pub target_eq-refl : (t : Target) → target_eq t t ≡ true
unfolding target_eq
target_eq-refl (Socket a) = eq-eqb a a refl
target_eq-refl (Pipe a) = eq-eqb a a refl
target_eq-refl (Open a) = eq-eqb a a refl
target_eq-refl (File a) = eq-eqb a a refl
target_eq-refl (Process a) = eq-eqb a a refl
target_eq-refl (Signal pid a) = and_from (eqb pid pid) (eqb a a) (eq-eqb pid pid refl) (eq-eqb a a refl)
target_eq-refl Own = refl

pub is_target-it : (found : Option Target) (t : Target) → found ≡ Some t → is_target found t ≡ true
unfolding is_target
is_target-it found t e = subst (λ x. is_target x t ≡ true) (sym e) (target_eq-refl t)

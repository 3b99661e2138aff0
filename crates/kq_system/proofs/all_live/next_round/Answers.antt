use Rattle.std.proofs.Common.{◌≡◌, ℕ, Option, None, Some, subst}
use Rattle.std.proofs.lemmas.List.{take_all}
use Rattle.std.specs.Prelude.{All, IfSome}
use Rattle.kq_model.specs.declared.object.Target.TheVariants.{Own}
use Rattle.kq_model.specs.Targets.{Posted}
use Rattle.kq_system.proofs.all_live.next_round.Goals as goal

whichever : (o : Option ℕ) (P : Type 0) → P → IfSome o (λ _. P)
whichever None P holds = tt
whichever (Some n) P holds = holds

pub returns-clause-of_others : goal.returns-clause-of_others
returns-clause-of_others c =
    whichever _ (All (λ (p : Posted). p.0 ≡ Own → ⊥) c.args.hints.now)
    (subst (All (λ (p : Posted). p.0 ≡ Own → ⊥))
    (take_all c.loop-hint.hint-index c.args.hints.now c.loop-hint-test.false) c.loop-hint.invariant)

use Rattle.std.proofs.Common.{◌≡◌, take}
use Rattle.std.specs.Prelude.{All}
use Rattle.kq_model.specs.declared.object.Target.TheVariants.{Own}
use Rattle.kq_model.specs.Targets.{Posted}
use Rattle.kq_system.proofs.all_live.next_round.Given as goal

abbrev pub invariant-loop-hint : goal.invariant-loop-hint
invariant-loop-hint l = All (λ (p : Posted). p.0 ≡ Own → ⊥) (take l.hint-index l.hints)

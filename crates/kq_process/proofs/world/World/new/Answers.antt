use Rattle.std.proofs.Common.{sym, subst}
use Rattle.kq_model.specs.CountedWorld.{IsCountedWorld}
use Rattle.kq_model.specs.ListedFiles.{AreListed}
use Rattle.kq_model.specs.Objects.{counted}
use Rattle.kq_model.specs.World.{World}
use Rattle.kq_model.proofs.CountedSteps.{counted-empty}
use Rattle.kq_model.proofs.ListedWorld.{listed-empty}
use Rattle.kq_process.specs.State.{state_of}
use Rattle.kq_process.proofs.world.World.new.Goals as goal

pub invariant_of-result : goal.invariant_of-result
invariant_of-result c =
    let first : IsCountedWorld 1 (state_of c.in_ok-state.state) = subst (IsCountedWorld 1) (sym c.in_ok-state.ensures) counted-empty in
    record {
      rising = first.rising;
      owned = first.owned;
      below = first.below;
      lists = subst (λ (w : World counted). AreListed w.objects) (sym c.in_ok-state.ensures) listed-empty;
    }

use Rattle.std.proofs.Common.{◌≡◌, ◌||◌, drop}
use Rattle.kq_model.specs.Tallied.{Knote}
use Rattle.kq_model.specs.Targets.{is_target}
use Rattle.kq_knote.specs.Index.{is_hinted}
use Rattle.kq_knote.proofs.hinted.only_target.Given as goal

abbrev pub invariant-loop-hint : goal.invariant-loop-hint
invariant-loop-hint l = record {
  so_far : (k : Knote) → is_hinted l.posted k ≡ is_target k.target l.first || is_hinted (drop l.hint-index l.posted) k;
}

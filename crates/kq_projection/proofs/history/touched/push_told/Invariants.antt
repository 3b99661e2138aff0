use Rattle.std.proofs.Common.{◌≡◌, ◌++◌, take}
use Rattle.kq_projection.specs.Touched.{told_targets}
use Rattle.kq_projection.proofs.history.touched.push_told.Given as goal

abbrev pub invariant-loop-hint : goal.invariant-loop-hint
invariant-loop-hint l = l.targets.items ≡ l.initial.targets.items ++ told_targets (take l.hint-index l.hints)

use Rattle.std.proofs.Common.{◌≡◌, take}
use Rattle.kq_model.specs.FilePlans.{readable_each}
use Rattle.kq_objects.proofs.file_plans.hints_to.Given as goal

abbrev pub invariant-loop-place : goal.invariant-loop-place
invariant-loop-place l = l.hints.items ≡ readable_each (take l.place-index l.others)

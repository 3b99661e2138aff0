use Rattle.std.proofs.Common.{◌≡◌, drop}
use Rattle.kq_model.specs.Holders.{all_held}
use Rattle.kq_objects.specs.Objects.{objects_of}
use Rattle.kq_process.specs.Counts.{CanHoldEach, names_in}
use Rattle.kq_process.specs.Slots.{filled}
use Rattle.kq_process.proofs.counting.hold_each.Given as goal

abbrev pub invariant-loop-slot : goal.invariant-loop-slot
invariant-loop-slot l = record {
  rest : all_held (names_in (filled (drop l.slot-index l.slots))) (objects_of l.objects)
      ≡ all_held (names_in (filled l.slots)) (objects_of l.initial.objects);
  can : CanHoldEach (names_in (filled (drop l.slot-index l.slots))) (objects_of l.objects);
}

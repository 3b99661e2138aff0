use Rattle.std.proofs.Common.{◌≡◌, ◌+◌, ◌≤◌, ◌++◌, length, drop}
use Rattle.std.specs.Vec.{vec_len, vec_capacity}
use Rattle.kq_model.specs.Holding.{release_hints}
use Rattle.kq_model.specs.Holders.{all_released}
use Rattle.kq_objects.specs.Objects.{objects_of}
use Rattle.kq_process.specs.Counts.{CanReleaseEach, names_in}
use Rattle.kq_process.specs.Slots.{filled}
use Rattle.kq_process.proofs.counting.release_each.Given as goal

abbrev pub invariant-loop-slot : goal.invariant-loop-slot
invariant-loop-slot l = record {
  rest : all_released (names_in (filled (drop l.slot-index l.slots))) (objects_of l.objects)
      ≡ all_released (names_in (filled l.slots)) (objects_of l.initial.objects);
  can : CanReleaseEach (names_in (filled (drop l.slot-index l.slots))) (objects_of l.objects);
  said : l.hints.items ++ release_hints (names_in (filled (drop l.slot-index l.slots))) (objects_of l.objects)
      ≡ l.initial.hints.items ++ release_hints (names_in (filled l.slots)) (objects_of l.initial.objects);
  len : vec_len l.hints + length (filled (drop l.slot-index l.slots)) ≤ vec_len l.initial.hints + length (filled l.slots);
  capacity : vec_capacity l.initial.hints ≤ vec_capacity l.hints;
}

use Rattle.std.proofs.Common.{◌≡◌, ◌++◌, drop}
use Rattle.kq_process.specs.Processes.{descriptors_in}
use Rattle.kq_process.specs.Slots.{filled}
use Rattle.kq_projection.specs.Touched.{keys_of}
use Rattle.kq_projection.proofs.history.touched.push_numbers.Given as goal

abbrev pub invariant-loop-slot : goal.invariant-loop-slot
invariant-loop-slot l =
    l.numbers.items ++ keys_of (descriptors_in l.pid (filled (drop l.slot-index l.slots)))
    ≡ l.initial.numbers.items ++ keys_of (descriptors_in l.pid (filled l.slots))

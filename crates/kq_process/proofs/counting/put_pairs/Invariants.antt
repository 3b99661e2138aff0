use Rattle.std.proofs.Common.{◌≡◌, ◌++◌, ℕ, map, drop}
use Rattle.kq_model.specs.declared.object.Named.{Named}
use Rattle.kq_process.specs.Slots.{filled}
use Rattle.kq_process.proofs.counting.put_pairs.Given as goal

abbrev pub invariant-loop-slot : goal.invariant-loop-slot
invariant-loop-slot l =
    l.pairs.items ++ map (λ (d : ℕ × Named). (l.pid, d.0)) (filled (drop l.slot-index l.slots))
    ≡ l.initial.pairs.items ++ map (λ (d : ℕ × Named). (l.pid, d.0)) (filled l.slots)

use Rattle.std.proofs.Common.{◌≡◌, ◌++◌, ℕ, Option, drop, filter}
use Rattle.kq_model.specs.declared.object.Named.{Named}
use Rattle.kq_process.specs.Slots.{is_inherited}
use Rattle.kq_process.proofs.descriptors.inherited.Given as goal

abbrev pub invariant-loop-slot : goal.invariant-loop-slot
invariant-loop-slot l =
    l.copies.items ++ filter (λ (e : ℕ × Option Named). is_inherited e.1) (drop l.slot-index l.slots)
    ≡ filter (λ (e : ℕ × Option Named). is_inherited e.1) l.slots

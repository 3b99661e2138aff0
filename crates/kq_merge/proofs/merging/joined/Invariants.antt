-- The rows of the kqueues so far.
use Rattle.std.proofs.Common.{◌≡◌}
use Rattle.std.specs.List.{flat_map}
use Rattle.kq_merge.proofs.merging.joined.Given as goal

abbrev pub invariant-loop-kqueue : goal.invariant-loop-kqueue
invariant-loop-kqueue l = l.rows.items ≡ flat_map (λ k. k.rows) l.yielded

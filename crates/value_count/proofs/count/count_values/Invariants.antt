use Rattle.std.proofs.Common.{◌≡◌, ◌+◌, ◌≤◌, length}
use Rattle.value_count.specs.Count.{values_in}
use Rattle.value_count.proofs.count.count_values.Given as goal

-- the lines counted so far and those of the rest are all
abbrev pub invariant-loop-end : goal.invariant-loop-end
invariant-loop-end l = record {
  total : l.values + values_in l.rest ≡ values_in l.fn.bytes;
  within : l.values + length l.rest ≤ length l.fn.bytes;
}

abbrev pub decreases-loop-end : goal.decreases-loop-end
decreases-loop-end l = length l.rest

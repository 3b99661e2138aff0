-- The changes so far.
use Rattle.std.proofs.Common.{◌≤◌, length}
use Rattle.kq_line.proofs.Lists.{ChangesSoFar}
use Rattle.kq_line.proofs.changes.change_list.Given as goal

abbrev pub invariant-changes : goal.invariant-changes
invariant-changes l = record {
  so_far : ChangesSoFar l.text l.rest l.changes.items;
  shorter : length l.rest ≤ length l.text;
}

abbrev pub decreases-changes : goal.decreases-changes
decreases-changes l = length l.rest

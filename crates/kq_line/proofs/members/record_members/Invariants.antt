-- What was found before the member that comes next.
use Rattle.std.proofs.Common.{◌≤◌, length}
use Rattle.kq_line.proofs.Parts.{PartsSoFar}
use Rattle.kq_line.proofs.members.record_members.Given as goal

abbrev pub invariant-members : goal.invariant-members
invariant-members l = record {
  so_far : PartsSoFar 3 l.text l.rest l.found;
  shorter : length l.rest ≤ length l.text;
}

abbrev pub decreases-members : goal.decreases-members
decreases-members l = length l.rest

-- The flags of the names so far.
use Rattle.std.proofs.Common.{◌≤◌, length}
use Rattle.kq_line.proofs.Lists.{FlagsSoFar}
use Rattle.kq_line.proofs.flags.flag_names.Given as goal

abbrev pub invariant-names : goal.invariant-names
invariant-names l = record {
  so_far : FlagsSoFar l.text l.rest l.flags.0;
  shorter : length l.rest ≤ length l.text;
}

abbrev pub decreases-names : goal.decreases-names
decreases-names l = length l.rest

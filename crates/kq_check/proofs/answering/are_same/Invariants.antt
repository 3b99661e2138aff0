-- Those that are left decide.
use Rattle.std.proofs.Common.{length}
use Rattle.kq_judge.specs.Same.{AreSame}
use Rattle.kq_check.proofs.answering.are_same.Given as goal

abbrev pub invariant-events : goal.invariant-events
invariant-events l = record {
  left : AreSame l.ignored l.expected l.rest → AreSame l.ignored l.events l.own;
  all : AreSame l.ignored l.events l.own → AreSame l.ignored l.expected l.rest;
}

abbrev pub decreases-events : goal.decreases-events
decreases-events l = length l.expected

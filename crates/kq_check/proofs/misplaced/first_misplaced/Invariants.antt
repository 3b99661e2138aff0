-- The answers that are left decide.
use Rattle.std.proofs.Common.{◌≡◌, drop}
use Rattle.kq_check.specs.Placed.{first_misplaced}
use Rattle.kq_check.proofs.misplaced.first_misplaced.Given as goal

abbrev pub invariant-loop-answer : goal.invariant-loop-answer
invariant-loop-answer l = first_misplaced l.events l.answers ≡ first_misplaced l.events (drop l.answer-index l.answers)

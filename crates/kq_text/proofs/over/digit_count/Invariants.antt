-- The digits that were counted, and those ahead.
use Rattle.std.proofs.Common.{◌≡◌, ◌+◌, decimal, length}
use Rattle.kq_text.proofs.over.digit_count.Given as goal

abbrev pub invariant-loop-rest : goal.invariant-loop-rest
invariant-loop-rest l = l.count + length (decimal l.rest) ≡ length (decimal l.number)

abbrev pub decreases-loop-rest : goal.decreases-loop-rest
decreases-loop-rest l = l.rest

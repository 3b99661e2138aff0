-- What was read so far is answered, at each turn and once the numbers are used up.
use Rattle.std.proofs.Common.{◌≡◌, arith, rules, true}
use Rattle.std.specs.Io.KnownBytes.{prepend_known}
use Rattle.kq_step.proofs.SoFar.{numbers_used}
use Rattle.kq_step.proofs.answering.answer_lines.Goals as goal

pub lines-init : goal.lines-init
lines-init g c = λ given before so_far. so_far

pub lines-preserved : goal.lines-preserved
lines-preserved g c =
    let some : c.in_ok-answer_next.field-0 ≡ true = search rules in
    λ given before so_far. c.in_ok-answer_next.ensures.more some given before (c.lines.invariant given before so_far)

pub returns-clause-fault : goal.returns-clause-fault
returns-clause-fault g c = λ given before so_far.
    numbers_used given before (g.I.Read.remaining c.lines.input) (g.O.Write.contents c.lines.out) c.lines.lines.waiting c.lines.number c.lines.stepping
    (c.lines.invariant given before so_far) (omega arith)

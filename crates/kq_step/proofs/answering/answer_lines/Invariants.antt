-- What was read so far is answered.
use Rattle.std.specs.Io.KnownBytes.{prepend_known}
use Rattle.kq_step.specs.SoFar.{FromSoFar, SoFar}
use Rattle.kq_step.proofs.answering.answer_lines.Given as goal

abbrev pub invariant-lines : goal.invariant-lines
invariant-lines g l =
    FromSoFar (prepend_known l.fn.lines.waiting (g.I.Read.remaining l.fn.input)) (g.O.Write.contents l.fn.out) 2 l.fn.stepping
    (λ given before. SoFar given before (prepend_known l.lines.waiting (g.I.Read.remaining l.input)) (g.O.Write.contents l.out) l.number l.stepping)

-- It went on by the pieces so far.
use Rattle.std.proofs.Common.{take}
use Rattle.kq_trace.proofs.TakenParts.{events_in}
use Rattle.kq_run.specs.Folding.{Answers}
use Rattle.kq_run.proofs.fold.answered.Given as goal

abbrev pub invariant-loop-piece : goal.invariant-loop-piece
invariant-loop-piece g l =
    Answers g.K.RowSink.took l.initial.system l.initial.rows l.system l.rows (events_in (take l.piece-index l.pieces))

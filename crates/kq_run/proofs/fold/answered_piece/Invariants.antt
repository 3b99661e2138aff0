-- It went on by the records so far.
use Rattle.std.proofs.Common.{take}
use Rattle.kq_run.specs.Folding.{Answers}
use Rattle.kq_run.proofs.fold.answered_piece.Given as goal

abbrev pub invariant-loop-event : goal.invariant-loop-event
invariant-loop-event g l =
    Answers g.K.RowSink.took l.initial.system l.initial.rows l.system l.rows (take l.event-index l.events)

use Rattle.std.proofs.Common.{◌≡◌, length, take}
use Rattle.kq_shares.specs.Going.{events_in}
use Rattle.kq_run.proofs.shared_fold.count.Given as goal

abbrev pub invariant-loop-piece : goal.invariant-loop-piece
invariant-loop-piece l = l.count ≡ length (events_in (take l.piece-index l.pieces))

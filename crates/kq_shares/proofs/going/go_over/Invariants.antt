use Rattle.std.proofs.Common.{take}
use Rattle.kq_shares.specs.Going.{events_in, HasGone}
use Rattle.kq_shares.proofs.going.go_over.Given as goal

abbrev pub invariant-loop-piece : goal.invariant-loop-piece
invariant-loop-piece l = HasGone l.initial.share.value (events_in (take l.piece-index l.pieces)) l.share.value l.rows.items

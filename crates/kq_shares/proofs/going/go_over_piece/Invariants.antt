use Rattle.std.proofs.Common.{◌≡◌, ◌++◌, List, take}
use Rattle.kq_model.specs.declared.row.Row.{Row}
use Rattle.kq_shares.specs.Going.{HasGone}
use Rattle.kq_shares.proofs.going.go_over_piece.Given as goal

abbrev pub invariant-loop-event : goal.invariant-loop-event
invariant-loop-event l =
    (more : List Row) × HasGone l.fn.share (take l.event-index l.events) l.share more × (l.rows.items ≡ l.fn.rows.items ++ more)

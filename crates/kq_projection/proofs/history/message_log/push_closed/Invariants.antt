use Rattle.std.proofs.Common.{◌≡◌, ◌++◌, map, take}
use Rattle.kq_model.specs.Items.{Closed}
use Rattle.kq_process.specs.Effects.{pairs_in}
use Rattle.kq_projection.specs.Messages.{said_whats}
use Rattle.kq_projection.proofs.history.message_log.push_closed.Given as goal

abbrev pub invariant-loop-pair : goal.invariant-loop-pair
invariant-loop-pair l = l.log.items ≡ l.initial.log.items ++ said_whats l.place (map Closed (pairs_in (take l.pair-index l.closed)))

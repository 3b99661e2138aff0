use Rattle.std.proofs.Common.{◌≡◌, ◌++◌, map, take}
use Rattle.kq_model.specs.Items.{Told}
use Rattle.kq_projection.specs.Messages.{said_whats}
use Rattle.kq_projection.proofs.history.message_log.push_told.Given as goal

abbrev pub invariant-loop-told : goal.invariant-loop-told
invariant-loop-told l = l.log.items ≡ l.initial.log.items ++ said_whats l.place (map Told (take l.told-index l.hints))

use Rattle.std.proofs.Common.{◌≡◌, take, map}
use Rattle.kq_projection.specs.MessageIndex.{item_at}
use Rattle.kq_projection.proofs.history.message_index.MessageIndex.items_at.Given as goal

abbrev pub invariant-loop-number : goal.invariant-loop-number
invariant-loop-number l = l.picked.items ≡ map (item_at l.self) (take l.number-index l.numbers)

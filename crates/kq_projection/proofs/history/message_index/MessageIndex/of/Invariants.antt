use Rattle.std.proofs.Common.{take}
use Rattle.kq_projection.specs.MessageIndex.{AreIndexed}
use Rattle.kq_projection.proofs.history.message_index.MessageIndex.of.Given as goal

abbrev pub invariant-loop-number : goal.invariant-loop-number
invariant-loop-number l = AreIndexed (take l.number l.fn.items.items) l.postings.table

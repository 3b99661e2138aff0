use Rattle.std.proofs.Common.{◌≡◌, take}
use Rattle.kq_projection.specs.MessageIndex.{all_standing}
use Rattle.kq_projection.proofs.history.message_index.MessageIndex.numbers_of.Given as goal

abbrev pub invariant-loop-source : goal.invariant-loop-source
invariant-loop-source l = l.numbers.items ≡ all_standing l.self (take l.source-index l.sources)

use Rattle.std.proofs.Common.{take}
use Rattle.kq_projection.specs.Children.{children_at}
use Rattle.kq_projection.specs.Sources.{Begins, Grows}
use Rattle.kq_projection.proofs.history.message_index.MessageIndex.add_told.Given as goal

abbrev pub invariant-loop-number : goal.invariant-loop-number
invariant-loop-number l = record {
  grows : Grows (children_at l.self (take l.number-index l.numbers)) l.initial.all l.all;
  begins : Begins l.initial.all.set.keys l.all.set.keys;
}

use Rattle.std.proofs.Common.{drop}
use Rattle.kq_kevent.specs.Telling.{AreLeft}
use Rattle.kq_kevent.proofs.notify.is_left.Given as goal

abbrev pub invariant-loop-posted : goal.invariant-loop-posted
invariant-loop-posted l = record {
  so_far : AreLeft l.knote (drop l.posted-index l.hints) → AreLeft l.knote l.hints;
}

use Rattle.std.proofs.Common.{◌≡◌, false, drop}
use Rattle.kq_kevent.specs.Telling.{told_all}
use Rattle.kq_kevent.proofs.notify.tell_all.Given as goal

abbrev pub invariant-loop-posted : goal.invariant-loop-posted
invariant-loop-posted l = record {
  so_far : told_all l.hints (record { knote = l.fn.knote; any = false; done = false }) ≡ told_all (drop l.posted-index l.hints) l.telling;
}

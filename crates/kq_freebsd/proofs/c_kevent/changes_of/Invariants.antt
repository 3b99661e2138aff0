-- The kevents so far ask for the changes so far.
use Rattle.std.proofs.Common.{take}
use Rattle.kq_freebsd.specs.Kevents.{AreChanges}
use Rattle.kq_freebsd.proofs.c_kevent.changes_of.Given as goal

abbrev pub invariant-loop-kevent : goal.invariant-loop-kevent
invariant-loop-kevent l = AreChanges (take l.kevent-index l.kevents) l.changes.items

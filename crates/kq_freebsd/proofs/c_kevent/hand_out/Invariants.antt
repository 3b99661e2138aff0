-- The events so far are handed out.
use Rattle.std.proofs.Common.{◌≡◌, take}
use Rattle.kq_freebsd.specs.Kevents.{handed_out}
use Rattle.kq_freebsd.proofs.c_kevent.hand_out.Given as goal

abbrev pub invariant-loop-i : goal.invariant-loop-i
invariant-loop-i l = l.array ≡ handed_out (take l.i l.fn.events) l.fn.array

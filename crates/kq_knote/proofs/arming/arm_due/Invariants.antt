use Rattle.std.proofs.Common.{take}
use Rattle.kq_knote.specs.Expiring.{AreArmed, AreKept}
use Rattle.kq_knote.proofs.arming.arm_due.Given as goal

abbrev pub invariant-loop-key : goal.invariant-loop-key
invariant-loop-key l = record {
  kept : AreKept l.initial.alarms.entries l.alarms.entries;
  armed : AreArmed l.to (take l.key-index l.due) l.alarms.entries l.rows.rows;
}

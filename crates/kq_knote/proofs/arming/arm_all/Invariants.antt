use Rattle.std.proofs.Common.{◌-◌, length}
use Rattle.kq_knote.proofs.ArmLaws.{IsArming}
use Rattle.kq_knote.proofs.arming.arm_all.Given as goal

abbrev pub invariant-loop-step : goal.invariant-loop-step
invariant-loop-step l = record {
  at : IsArming l.since l.rows.rows l.next (length l.rows.rows - l._step) l.alarms.entries;
}

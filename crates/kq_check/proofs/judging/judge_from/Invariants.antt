-- What the records that are left come to is what all do.
use Rattle.std.proofs.Common.{◌≡◌, ◌+◌, [], None, drop}
use Rattle.kq_system.specs.SystemState.{system_of}
use Rattle.kq_check.specs.declared.outcome.Outcome.{Outcome}
use Rattle.kq_check.specs.Judged.{IsJudgedFrom}
use Rattle.kq_check.proofs.judging.judge_from.Given as goal

abbrev pub invariant-records : goal.invariant-records
invariant-records l = record {
  counted : l.system.applied ≡ l.event-index;
  left : (o : Outcome) → IsJudgedFrom l.ignored l.permits (l.system.applied + 1) (system_of l.system) (drop l.event-index l.events) l.rest l.first l.unsure.places.keys o
      → IsJudgedFrom l.ignored l.permits 1 (system_of l.initial.system) l.trace.events l.answers None [] o;
}

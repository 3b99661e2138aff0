-- One record further.
use Rattle.std.proofs.Common.{◌∙◌, arith}
use Rattle.kq_system.specs.SystemState.{system_of}
use Rattle.kq_check.proofs.CarriedRun.{one_carried}
use Rattle.kq_check.proofs.story.Story.go_on_before.Goals as goal

pub records-preserved : goal.records-preserved
records-preserved c = record {
  before = omega (arith, c.in_ok-go_on.ensures.applied, c.if-applied-at.false, c.applied.ensures);
  world = c.in_ok-go_on.ensures.world;
  counted = omega (arith, c.in_ok-go_on.ensures.applied, c.records.invariant.counted);
  ignored = c.in_ok-go_on.ensures.ignored ∙ c.records.invariant.ignored;
  left = λ next rest carried. c.records.invariant.left next rest
      (one_carried c.args.self.now.ignored.now c.records.self.ignored.now c.go_on.new.self.system.applied c.records.self.system.applied c.args.at
      (system_of c.records.self.system) (system_of c.go_on.new.self.system) c.as_slice-events.result.now c.records.event-index _
      c.records.self.rest.now c.go_on.new.self.rest.now next rest c.records-test.true c.records.invariant.counted
      (omega (arith, c.if-applied-at.false, c.applied.ensures, c.records.invariant.counted)) c.event-item.is c.records.invariant.ignored
      c.in_ok-go_on.ensures.carried c.in_ok-go_on.ensures.rest c.in_ok-go_on.ensures.applied carried);
}

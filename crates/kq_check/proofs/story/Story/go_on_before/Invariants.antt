-- The place is not reached yet, the world is no further than the system, and the records that are left lead where all do.
use Rattle.std.proofs.Common.{◌≡◌, ◌<◌, ◌≤◌, ◌-◌, ◌+◌, List, drop, take}
use Rattle.kq_answers.specs.declared.answer.Answer.{Answer}
use Rattle.kq_model.specs.Tallied.{System}
use Rattle.kq_process.specs.World.{last_of}
use Rattle.kq_system.specs.SystemState.{system_of}
use Rattle.kq_check.specs.Carried.{AreCarried}
use Rattle.kq_check.proofs.story.Story.go_on_before.Given as goal

abbrev pub invariant-records : goal.invariant-records
invariant-records l = record {
  before : l.self.system.applied < l.at;
  world : last_of l.self.world ≤ l.self.system.applied;
  counted : l.self.system.applied ≡ l.event-index;
  ignored : l.self.ignored.now ≡ l.initial.self.ignored.now;
  left : (next : System) (rest : List Answer)
      → AreCarried l.initial.self.ignored.now (l.self.system.applied + 1) (system_of l.self.system) (drop l.event-index (take (l.at - 1) l.events)) l.self.rest.now next rest
      → AreCarried l.initial.self.ignored.now 1 (system_of l.initial.self.system) (take (l.at - 1) l.trace.events) l.initial.self.rest.now next rest;
}

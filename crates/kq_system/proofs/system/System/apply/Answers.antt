use Rattle.std.proofs.Common.{◌+◌, ◌∙◌}
use Rattle.std.proofs.lemmas.Result.{IfOk-weaker}
use Rattle.kq_model.specs.Hearing.{listed}
use Rattle.kq_model.specs.Objects as objects
use Rattle.kq_model.specs.System.{empty_system, system_after}
use Rattle.kq_model.proofs.RecastSystem.{step-tallied}
use Rattle.kq_model.proofs.VersionOne.{answer-version_one}
use Rattle.kq_system.specs.SystemState.{system_of}
use Rattle.kq_system.proofs.ClosedLemmas.{closes_all}
use Rattle.kq_system.proofs.StepLemmas.{answered}
use Rattle.kq_system.proofs.system.System.apply.Goals as goal

pub returns-clause-closed : goal.returns-clause-closed
returns-clause-closed c =
    IfOk-weaker c.step-reply.result _ _ (λ r steps.
    closes_all (c.args.self.now.applied + 1) c.args.event.now (system_of c.args.self.now) (system_of c.step-reply.new.self) r
    steps) c.step-reply.ensures.reply

pub returns-clause-impossible : goal.returns-clause-impossible
returns-clause-impossible c =
    answered c.step-reply.result (c.args.self.now.applied + 1) c.args.event.now (system_of c.args.self.now)
    c.step-reply.ensures.possible

pub returns-clause-model : goal.returns-clause-model
returns-clause-model c =
    IfOk-weaker c.step-reply.result _ _ (λ r steps m same.
    step-tallied (c.args.self.now.applied + 1) c.args.event.now (system_of c.args.self.now) (system_of c.step-reply.new.self) r m same
    steps.0 steps.1) c.step-reply.ensures.reply

pub returns-clause-version_one : goal.returns-clause-version_one
returns-clause-version_one c =
    IfOk-weaker c.step-reply.result _ _ (λ r stands events same.
    (stands (system_after 1 (empty_system {h = listed} {k = objects.listed} 1) events) same).1
    ∙ answer-version_one events (c.args.self.now.applied + 1) c.args.event.now)
    (returns-clause-model c)

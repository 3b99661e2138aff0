use Rattle.std.proofs.lemmas.Result.{on_err_weaker}
use Rattle.kq_model.specs.ProcessPlans.{plan_exec}
use Rattle.kq_objects.specs.Objects.{objects_of}
use Rattle.kq_process.specs.Effects.{IsPossibleBy}
use Rattle.kq_process.specs.State.{state_of}
use Rattle.kq_process.proofs.Still.{still-exec}
use Rattle.kq_process.proofs.state.State.exec.Goals as goal

pub returns-clause-world : goal.returns-clause-world
returns-clause-world c place = still-exec place (state_of c.args.self.now) c.args.pid

pub returns-clause-possible : goal.returns-clause-possible
returns-clause-possible c =
    let now = c.args.self.now in
    on_err_weaker c.exec.result
    (λ (possible : IsPossibleBy (plan_exec c.args.pid) now.processes). possible (objects_of now.objects) now.clock)
    c.exec.ensures.possible

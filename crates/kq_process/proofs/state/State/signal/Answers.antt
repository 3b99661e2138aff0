use Rattle.std.proofs.lemmas.Result.{on_err_weaker}
use Rattle.kq_model.specs.ProcessPlans.{plan_sig}
use Rattle.kq_objects.specs.Objects.{objects_of}
use Rattle.kq_process.specs.Effects.{IsPossibleBy}
use Rattle.kq_process.specs.State.{state_of}
use Rattle.kq_process.proofs.Still.{still-sig}
use Rattle.kq_process.proofs.state.State.signal.Goals as goal

pub returns-clause-world : goal.returns-clause-world
returns-clause-world c place = still-sig place (state_of c.args.self.now) c.args.pid c.args.signal

pub returns-clause-possible : goal.returns-clause-possible
returns-clause-possible c =
    let now = c.args.self.now in
    on_err_weaker c.signal.result
    (λ (possible : IsPossibleBy (plan_sig c.args.pid c.args.signal) now.processes). possible (objects_of now.objects) now.clock)
    c.signal.ensures.possible

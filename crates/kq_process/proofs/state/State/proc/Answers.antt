use Rattle.std.proofs.lemmas.Result.{on_err_weaker, on_ok_weaker}
use Rattle.kq_model.specs.ProcessPlans.{plan_proc}
use Rattle.kq_objects.specs.Objects.{objects_of}
use Rattle.kq_process.specs.Effects.{IsAfter, IsPossibleBy}
use Rattle.kq_process.proofs.state.State.proc.Goals as goal

pub returns-clause-world : goal.returns-clause-world
returns-clause-world c place =
    let old = c.args.self.now in
    on_ok_weaker c.proc.result
    (λ (after : IsAfter place (plan_proc c.args.pid) old.processes c.proc.new.self). after (objects_of old.objects) old.clock)
    (c.proc.ensures.world place)

pub returns-clause-possible : goal.returns-clause-possible
returns-clause-possible c =
    let old = c.args.self.now in
    on_err_weaker c.proc.result
    (λ (possible : IsPossibleBy (plan_proc c.args.pid) old.processes). possible (objects_of old.objects) old.clock)
    c.proc.ensures.possible

use Rattle.std.proofs.lemmas.Result.{IfOk-weaker}
use Rattle.kq_projection.proofs.Collected.{collected}
use Rattle.kq_projection.proofs.alone.running.replay_all_with.Goals as goal

pub returns-clause-ok : goal.returns-clause-ok
returns-clause-ok g c =
    IfOk-weaker c.run_all.result _ _ (λ kqueues are. collected c.args.split.now kqueues.items are) c.run_all.ensures.ok

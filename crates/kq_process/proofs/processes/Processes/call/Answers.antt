use Rattle.kq_model.specs.DescriptorPlans.{plan_call, plan_kevent}
use Rattle.kq_process.proofs.processes.Processes.call.Goals as goal

pub returns-in-Err : goal.returns-in-Err
unfolding plan_kevent
returns-in-Err c o now = c.in-Err.ensures.planned (plan_call c.args.changes.now c.args.room) o now

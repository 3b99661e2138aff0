use Rattle.std.proofs.Common.{◌+◌, ◌-◌, ◌*◌}
use Rattle.kq_jobs.proofs.running.+fn-run_from-scope+run_from.Given as goal

-- the workers that are left to be started, and whether the scope of this one has begun
abbrev pub decreases-scope : goal.decreases-scope
decreases-scope g l = 2 * (l.run.now.workers - l.worker) + 1

abbrev pub decreases-run_from : goal.decreases-run_from
decreases-run_from g l = 2 * (l.run.now.workers + 1 - l.worker)

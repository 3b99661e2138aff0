use Rattle.std.proofs.Common.{◌≡◌}
use Rattle.kq_jobs.specs.Outcomes.{AreRan}
use Rattle.kq_jobs.proofs.worker.work.Given as goal

-- what was run so far, at the seat of this counter
abbrev pub invariant-loop : goal.invariant-loop
invariant-loop g l = AreRan (g.J.Jobs.gives l.jobs) l.ran.items × (l.seat.counter ≡ l.fn.counter)

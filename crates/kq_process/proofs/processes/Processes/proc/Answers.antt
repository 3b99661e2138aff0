use Rattle.std.proofs.Common.{◌≡◌, false, refl, arith}
use Rattle.kq_model.specs.Processes.{was_used}
use Rattle.kq_process.specs.Processes.{processes_of}
use Rattle.kq_process.proofs.Planned.{proc_plan, proc_world}
use Rattle.kq_process.specs.Effects.{world_with}
use Rattle.kq_process.proofs.processes.Processes.proc.Goals as goal

pub returns-clause-effect : goal.returns-clause-effect
returns-clause-effect c o now =
    let fresh : was_used c.args.pid (processes_of c.args.self.now) ≡ false = grind (arith, c.was_used.ensures) in
    rw (proc_plan c.args.pid (world_with c.args.self.now o now) fresh) (c.quiet.ensures _ refl refl)

pub returns-clause-world : goal.returns-clause-world
returns-clause-world c place o now =
    let fresh : was_used c.args.pid (processes_of c.args.self.now) ≡ false = grind (arith, c.was_used.ensures) in
    proc_world c.args.pid
    (world_with c.args.self.now o now) place _ _ fresh c.in_ok-start.ensures.processes c.start.ensures.table

use Rattle.std.proofs.Common.{◌≡◌, ◌≤◌, true, refl, arith}
use Rattle.kq_model.specs.Limits.{most_signal}
use Rattle.kq_model.specs.Processes.{is_live}
use Rattle.kq_process.specs.Processes.{processes_of}
use Rattle.kq_process.proofs.Planned.{sigset_plan, sigset_world}
use Rattle.kq_process.specs.Effects.{world_with}
use Rattle.kq_process.proofs.processes.Processes.sigset.Goals as goal

pub returns-clause-effect : goal.returns-clause-effect
returns-clause-effect c o now =
    let live : is_live c.args.pid (processes_of c.args.self.now) ≡ true = grind (arith, c.is_live.ensures) in
    let low : 1 ≤ c.args.signal = omega arith in
    let high : c.args.signal ≤ most_signal = omega arith in
    let w = world_with c.args.self.now o now in
    rw (sigset_plan c.args.pid w c.args.signal c.args.ignore live low high) (c.quiet.ensures _ refl refl)

pub returns-clause-world : goal.returns-clause-world
returns-clause-world c place o now =
    let live : is_live c.args.pid (processes_of c.args.self.now) ≡ true = grind (arith, c.is_live.ensures) in
    let low : 1 ≤ c.args.signal = omega arith in
    let high : c.args.signal ≤ most_signal = omega arith in
    let w = world_with c.args.self.now o now in
    sigset_world c.args.pid w place c.args.signal c.args.ignore _ _ live low high
    c.dispose.ensures.processes c.dispose.ensures.table

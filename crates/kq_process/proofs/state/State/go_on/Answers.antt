use Rattle.std.proofs.Common.{◌≤◌, refl, arith}
use Rattle.kq_process.specs.State.{state_of}
use Rattle.kq_process.proofs.Planned.{clock_plan, clock_world}
use Rattle.kq_process.proofs.state.State.go_on.Goals as goal

pub returns-clause-effect : goal.returns-clause-effect
returns-clause-effect c =
    let later : c.args.self.now.clock ≤ c.args.moment = omega arith in
    rw (clock_plan 0 (state_of c.args.self.now) c.args.moment later) (c.quiet.ensures _ refl refl)

pub returns-clause-world : goal.returns-clause-world
returns-clause-world c place =
    let later : c.args.self.now.clock ≤ c.args.moment = omega arith in
    clock_world 0 (state_of c.args.self.now) place c.args.moment later

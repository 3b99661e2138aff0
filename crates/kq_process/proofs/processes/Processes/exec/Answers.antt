use Rattle.std.proofs.Common.{◌≡◌, true, [], ◌∷◌, refl, arith}
use Rattle.kq_model.specs.Bits.{exec_note}
use Rattle.kq_model.specs.ProcessPlans.{noted, plan_exec}
use Rattle.kq_model.specs.Processes.{is_live}
use Rattle.kq_process.specs.Processes.{processes_of}
use Rattle.kq_process.proofs.Planned.{told_by, held_anyway, exec_plan}
use Rattle.kq_process.specs.Effects.{world_with, IsPossibleBy, IsToldBy}
use Rattle.kq_process.proofs.processes.Processes.exec.Goals as goal

pub returns-clause-effect : goal.returns-clause-effect
returns-clause-effect c =
    let live : is_live c.args.pid (processes_of c.args.self.now) ≡ true = grind (arith, c.is_live.ensures) in
    told_by (noted c.args.pid exec_note ∷ []) (IsToldBy (plan_exec c.args.pid) c.args.self.now)
    (λ e tells o now. rw (exec_plan c.args.pid (world_with c.args.self.now o now) live) (tells _ refl refl))
    c.told.new.self c.told.result c.told.ensures

pub returns-clause-possible : goal.returns-clause-possible
returns-clause-possible c =
    let live : is_live c.args.pid (processes_of c.args.self.now) ≡ true = grind (arith, c.is_live.ensures) in
    held_anyway (IsPossibleBy (plan_exec c.args.pid) c.args.self.now) c.told.result
    (λ o now. rw (exec_plan c.args.pid (world_with c.args.self.now o now) live) tt)

use Rattle.std.proofs.Common.{◌≡◌, ◌≤◌, ◌==◌, ◌&&◌, true, false, Bool, [], ◌∷◌, refl, arith}
use Rattle.std.proofs.lemmas.Bool.Decides.{nat_tests}
use Rattle.kq_model.specs.declared.object.Hint.TheVariants as hint
use Rattle.kq_model.specs.declared.object.Target.TheVariants as target
use Rattle.kq_model.specs.Limits.{most_signal}
use Rattle.kq_model.specs.ProcessPlans.{child_signal, plan_sig}
use Rattle.kq_model.specs.Processes.{is_live, process_of, ignored_by}
use Rattle.kq_process.specs.Processes.{processes_of}
use Rattle.kq_process.proofs.Planned.{told_by, held_anyway, sig_plan, sig_heard, sig_unheard}
use Rattle.kq_process.specs.Effects.{world_with, IsPossibleBy, IsToldBy}
use Rattle.kq_process.proofs.processes.Processes.signal.Goals.{else-signal-eq-SIGCHLD-via-then-signal-eq-SIGCHLD+else-ignores, else-signal-eq-SIGCHLD-via-else-signal-eq-SIGCHLD}
use Rattle.kq_process.proofs.processes.Processes.signal.Goals as goal

pub returns-then-ignores-clause-effect : goal.returns-then-ignores-clause-effect
returns-then-ignores-clause-effect c o now =
    let live : is_live c.args.pid (processes_of c.args.self.now) ≡ true = grind (arith, c.is_live.ensures) in
    let low : 1 ≤ c.args.signal = omega arith in
    let high : c.args.signal ≤ most_signal = omega arith in
    let ignored : Bool = ignored_by (process_of c.args.pid (processes_of c.args.self.now)) c.args.signal in
    let unheard : ((c.args.signal == child_signal) && ignored) ≡ true = grind (arith, nat_tests, c.ignores.ensures) in
    let w = world_with c.args.self.now o now in
    rw (sig_unheard c.args.pid w c.args.signal live low high unheard) (c.quiet.ensures _ refl refl)

pub returns-clause-effect : goal.returns-clause-effect
returns-clause-effect c =
    let live : is_live c.args.pid (processes_of c.args.self.now) ≡ true = grind (arith, c.is_live.ensures) in
    let low : 1 ≤ c.args.signal = omega arith in
    let high : c.args.signal ≤ most_signal = omega arith in
    let ignored : Bool = ignored_by (process_of c.args.pid (processes_of c.args.self.now)) c.args.signal in
    let heard : ((c.args.signal == child_signal) && ignored) ≡ false =
    elim c.else-signal-eq-SIGCHLD.branch [
      | else-signal-eq-SIGCHLD-via-then-signal-eq-SIGCHLD+else-ignores w ↦ grind (arith, nat_tests, w.ignores.ensures)
      | else-signal-eq-SIGCHLD-via-else-signal-eq-SIGCHLD w ↦ grind (arith, nat_tests)
    ] in
    told_by ((target.Signal c.args.pid c.args.signal, hint.Delivered) ∷ [])
    (IsToldBy (plan_sig c.args.pid c.args.signal) c.args.self.now)
    (λ e tells o now. rw (sig_heard c.args.pid (world_with c.args.self.now o now) c.args.signal live low high heard)
    (tells _ refl refl))
    c.told.new.self c.told.result c.told.ensures

pub returns-clause-possible : goal.returns-clause-possible
returns-clause-possible c =
    let live : is_live c.args.pid (processes_of c.args.self.now) ≡ true = grind (arith, c.is_live.ensures) in
    let low : 1 ≤ c.args.signal = omega arith in
    let high : c.args.signal ≤ most_signal = omega arith in
    held_anyway (IsPossibleBy (plan_sig c.args.pid c.args.signal) c.args.self.now) c.told.result
    (λ o now. rw (sig_plan c.args.pid (world_with c.args.self.now o now) c.args.signal live low high) tt)

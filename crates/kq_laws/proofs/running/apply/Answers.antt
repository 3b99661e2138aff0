use Rattle.std.proofs.lemmas.Result.{IfOk-weaker}
use Rattle.kq_system.specs.SystemState.{system_of}
use Rattle.kq_laws.proofs.Children.{follows_children}
use Rattle.kq_laws.proofs.Forked.{tells_of_forks}
use Rattle.kq_laws.proofs.RunCalls.{returns_all_due}
use Rattle.kq_laws.proofs.RunTold.{counts_expirations}
use Rattle.kq_laws.proofs.Runs.{announces_all}
use Rattle.kq_laws.proofs.running.apply.Goals as goal

pub returns-clause-hints : goal.returns-clause-hints
returns-clause-hints c =
    IfOk-weaker c.apply.result _ _
    (λ r steps. announces_all c.args.system.now.applied c.args.event.now (system_of c.args.system.now) (system_of c.apply.new.self) steps.0)
    c.apply.ensures.reply

pub returns-clause-wakes : goal.returns-clause-wakes
returns-clause-wakes c =
    IfOk-weaker c.apply.result _ _
    (λ r steps. returns_all_due c.args.system.now.applied c.args.event.now (system_of c.args.system.now) (system_of c.apply.new.self) r
    steps.0 steps.1)
    c.apply.ensures.reply

pub returns-clause-timers : goal.returns-clause-timers
returns-clause-timers c =
    IfOk-weaker c.apply.result _ _
    (λ r steps. counts_expirations c.args.system.now.applied c.args.event.now (system_of c.args.system.now) (system_of c.apply.new.self) r
    steps.0 steps.1)
    c.apply.ensures.reply

pub returns-clause-children : goal.returns-clause-children
returns-clause-children c =
    IfOk-weaker c.apply.result _ _
    (λ r steps. follows_children c.args.system.now.applied c.args.event.now (system_of c.args.system.now) (system_of c.apply.new.self) steps.0)
    c.apply.ensures.reply

pub returns-clause-notices : goal.returns-clause-notices
returns-clause-notices c =
    IfOk-weaker c.apply.result _ _
    (λ r steps. tells_of_forks c.args.system.now.applied c.args.event.now (system_of c.args.system.now) r steps.1)
    c.apply.ensures.reply

use Rattle.std.proofs.Common.{◌∙◌, ◌+◌}
use Rattle.std.proofs.lemmas.Result.{IfOk-weaker}
use Rattle.kq_system.specs.SystemState.{system_of}
use Rattle.kq_system.proofs.ShareLemmas.{beside-none, beside-own}
use Rattle.kq_system.proofs.StepLemmas.{answered}
use Rattle.kq_system.proofs.sharing.apply_beside.Goals as goal

pub returns-then-mine-clause-reply : goal.returns-then-mine-clause-reply
returns-then-mine-clause-reply c =
    let now = c.args.system.now in
    IfOk-weaker c.apply.result _ _ (λ r steps own is kept.
    beside-own own (now.applied + 1) c.args.event.now (system_of now) (system_of c.apply.new.self) r kept steps
    (is ∙ c.if-mine.true)) c.apply.ensures.reply

pub returns-else-mine-clause-impossible : goal.returns-else-mine-clause-impossible
returns-else-mine-clause-impossible c =
    let now = c.args.system.now in
    answered c.pass.result (now.applied + 1) c.args.event.now (system_of now) c.pass.ensures.possible

pub returns-in_default : goal.returns-in_default
returns-in_default c =
    let now = c.args.system.now in
    record {
      reply = IfOk-weaker c.apply-in_default.result _ _ (λ r steps own is kept.
          beside-none own (now.applied + 1) c.args.event.now (system_of now) (system_of c.apply-in_default.new.self) r kept
          steps (λ pid fd same. c.in_default.not-Kqueue pid fd same)) c.apply-in_default.ensures.reply;
      applied = c.apply-in_default.ensures.applied;
      memory = c.apply-in_default.ensures.memory;
      impossible = c.apply-in_default.ensures.impossible;
    }

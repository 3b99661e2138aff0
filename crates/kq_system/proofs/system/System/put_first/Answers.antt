use Rattle.std.proofs.Common.{ap, ◌∙◌}
use Rattle.kq_model.specs.Tallied.{System}
use Rattle.kq_system.specs.Beginning.{arranged_in, live_named}
use Rattle.kq_system.specs.SystemState.{system_of}
use Rattle.kq_system.proofs.NamedLemmas.{arranged-named}
use Rattle.kq_system.proofs.BeginSteps.{arranged-tallied}
use Rattle.kq_system.proofs.system.System.put_first.Goals as goal

pub returns-clause-model : goal.returns-clause-model
returns-clause-model c = λ m same.
    c.arrange.ensures.system
    ∙ ap (λ (s : System). arranged_in c.args.pid c.args.fd c.args.keys.now s) same
    ∙ arranged-tallied c.args.pid c.args.fd c.args.keys.now m

pub returns-clause-kqueue : goal.returns-clause-kqueue
returns-clause-kqueue c =
    ap (λ (s : System). live_named c.args.pid c.args.fd s) c.arrange.ensures.system
    ∙ arranged-named c.args.pid c.args.fd c.args.keys.now (system_of c.args.self.now)

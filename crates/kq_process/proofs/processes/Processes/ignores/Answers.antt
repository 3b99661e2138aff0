use Rattle.std.proofs.Common.{ℕ, Bool, ap, ◌∙◌}
use Rattle.kq_process.proofs.Told.{ignored_is, ignored_none}
use Rattle.kq_process.proofs.processes.Processes.ignores.Goals as goal

pub returns-in-Some : goal.returns-in-Some
returns-in-Some c =
    let es = c.args.self.now.shelf in
    c.contains.ensures
    ∙ ap (λ (ignores : ℕ → Bool). ignores c.args.signal)
    (ignored_is c.args.pid es c.in-Some.process.now c.in-Some.ensures.found)

pub returns-in-None : goal.returns-in-None
returns-in-None c =
    let es = c.args.self.now.shelf in
    ignored_none c.args.pid es c.in-None.ensures.found c.args.signal

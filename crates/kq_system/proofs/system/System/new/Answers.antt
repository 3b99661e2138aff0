use Rattle.std.proofs.Common.{sym, ◌∙◌}
use Rattle.std.proofs.lemmas.Result.{IfOk-weaker}
use Rattle.kq_system.proofs.SystemLemmas.{opening}
use Rattle.kq_system.proofs.system.System.new.Goals as goal

pub returns-clause-model : goal.returns-clause-model
returns-clause-model c = IfOk-weaker c.empty.result _ _ (λ s is. is ∙ sym (opening c.args.version)) c.empty.ensures.system

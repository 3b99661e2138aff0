-- The kind decides.
use Rattle.std.proofs.Common.{Some, ap, ◌∙◌}
use Rattle.kq_line.proofs.MemberSteps.{if_some}
use Rattle.kq_line.proofs.usual_records.of_process.Goals as goal

pub returns-in-Sig : goal.returns-in-Sig
returns-in-Sig c = if_some c.sig.result (λ e is line op named up. is line op (named ∙ ap Some c.in-Sig.is) up) c.sig.ensures

pub returns-in-Fork : goal.returns-in-Fork
returns-in-Fork c = if_some c.fork.result (λ e is line op named up. is line op (named ∙ ap Some c.in-Fork.is) up) c.fork.ensures

pub returns-in-Exit : goal.returns-in-Exit
returns-in-Exit c = if_some c.exit.result (λ e is line op named up. is line op (named ∙ ap Some c.in-Exit.is) up) c.exit.ensures

-- The kind decides.
use Rattle.std.proofs.Common.{Some, ap, ◌∙◌}
use Rattle.kq_line.proofs.MemberSteps.{if_some}
use Rattle.kq_line.proofs.usual.by_process.Goals as goal

pub returns-in-Kevent : goal.returns-in-Kevent
returns-in-Kevent c =
    if_some c.kevent.result (λ e is line op named up. is line op (named ∙ ap Some c.in-Kevent.is) (c.in_ok-pid.ensures.value line _ up)) c.kevent.ensures

pub returns-in-Proc : goal.returns-in-Proc
returns-in-Proc c = if_some c.of_process.result (λ e is line op named up. is line op named (c.in_ok-pid.ensures.value line _ up)) c.of_process.ensures

pub returns-in_default : goal.returns-in_default
returns-in_default c = if_some c.of_descriptor.result (λ e is line op named up. is line op named (c.in_ok-pid.ensures.value line _ up)) c.of_descriptor.ensures

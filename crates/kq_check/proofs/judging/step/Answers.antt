-- A record that is no call.
use Rattle.std.proofs.Common.{◌∙◌, sym}
use Rattle.kq_check.proofs.PlainSteps.{opens_none, plain_step}
use Rattle.kq_check.proofs.judging.step.Goals as goal

pub returns-in_ok-reply-in_default-clause-stepped : goal.returns-in_ok-reply-in_default-clause-stepped
returns-in_ok-reply-in_default-clause-stepped c =
    plain_step c.args.ignored.now _ c.args.event.now _ _ c.in_ok-reply-in_default.reply _ _
    (λ pid fd changes room is. c.in_default.not-Kevent pid fd changes room is) c.in_ok-reply-in_default.ensures.reply
    (rw c.came_to-in_default.ensures.verdict c.verdict_of-in_default.ensures)

pub returns-in_ok-reply-in_default-clause-opened : goal.returns-in_ok-reply-in_default-clause-opened
returns-in_ok-reply-in_default-clause-opened c =
    c.came_to-in_default.ensures.opened
    ∙ sym (opens_none _ c.args.event.now _ _ (λ pid fd changes room is. c.in_default.not-Kevent pid fd changes room is))

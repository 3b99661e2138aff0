-- None of those.
use Rattle.kq_check.proofs.Unanswered.{calls_none}
use Rattle.kq_check.proofs.left_open.kqueue_of.Goals as goal

pub returns-in_default : goal.returns-in_default
returns-in_default c = calls_none c.args.event.now _ (λ pid fd changes room is. c.in_default.not-Kevent pid fd changes room is)

-- None of those.
use Rattle.kq_check.proofs.Unanswered.{no_events}
use Rattle.kq_check.proofs.left_open.events_in.Goals as goal

pub returns-in_default : goal.returns-in_default
returns-in_default c = no_events c.args.reply.now (λ events is. c.in_default.not-Events events is)

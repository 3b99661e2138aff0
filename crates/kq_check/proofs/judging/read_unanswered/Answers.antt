-- What is read, and whether the order is left open.
use Rattle.kq_check.proofs.Unanswered.{opened_so, read_unanswered}
use Rattle.kq_system.specs.SystemState.{system_of}
use Rattle.kq_check.proofs.judging.read_unanswered.Goals as goal

pub returns-clause-read : goal.returns-clause-read
returns-clause-read c = λ ignored.
    read_unanswered ignored c.args.system.now.applied c.args.call.pid c.args.call.fd c.args.call.room
    (system_of c.args.system.now) (system_of c.read_events.new.self) c.in_ok-reply.ensures.reply.0

pub returns-clause-opened : goal.returns-clause-opened
returns-clause-opened c =
    opened_so c.args.system.now.applied c.args.call.pid c.args.call.fd c.args.call.room c.waiting_in-waiting.result
    c.events_in.result c.place_named-kqueue.result c.opened_of.result (system_of c.args.system.now) c.in_ok-reply.reply
    c.opened_of.ensures c.waiting_in-waiting.ensures c.events_in.ensures c.in_ok-reply.ensures.reply.1 c.place_named-kqueue.ensures

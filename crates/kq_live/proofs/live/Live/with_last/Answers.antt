use Rattle.kq_live.proofs.Telling.{opened_empty}
use Rattle.kq_live.proofs.live.Live.with_last.Goals as goal

pub invariant_of-result : goal.invariant_of-result
invariant_of-result c =
    let lock = c.in-Ok-new.ensures.lock in
    opened_empty c.in-Ok-new.lock c.in-Ok.machine c.args.version c.args.last lock.0 lock.1 c.in-Ok.ensures
    c.requires.version c.requires.last

pub returns-in-Ok-new-clause-opens : goal.returns-in-Ok-new-clause-opens
returns-in-Ok-new-clause-opens c =
    let lock = c.in-Ok-new.ensures.lock in
    opened_empty c.in-Ok-new.lock c.in-Ok.machine c.args.version c.args.last lock.0 lock.1 c.in-Ok.ensures
    c.requires.version c.requires.last

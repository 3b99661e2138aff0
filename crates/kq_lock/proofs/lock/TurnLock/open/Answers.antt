use Rattle.std.proofs.Common.{rules}
use Rattle.kq_lock.proofs.Seating.{opens}
use Rattle.kq_lock.proofs.lock.TurnLock.open.Goals as goal

pub new-requires-2 : goal.new-requires-2
new-requires-2 g c = opens g.M.Machine.leads c.of.result.value c.args.last
    (record { value = c.args.machine; history = c.new.result }) _ _ (search rules) (search rules)
    (search rules) (search rules)

use Rattle.std.proofs.Common.{refl}
use Rattle.kq_objects.specs.Objects.{objects_of}
use Rattle.kq_process.specs.State.{state_of}
use Rattle.kq_process.proofs.Still.{still-kevent}
use Rattle.kq_process.proofs.state.State.kevent.Goals as goal

pub returns-in-Ok-clause-effect : goal.returns-in-Ok-clause-effect
returns-in-Ok-clause-effect c =
    let old = c.args.self.now in
    rw (c.in-Ok.ensures (objects_of old.objects) old.clock) (c.quiet.ensures _ refl refl)

pub returns-in-Ok-clause-world : goal.returns-in-Ok-clause-world
returns-in-Ok-clause-world c place = still-kevent place (state_of c.args.self.now) c.args.pid c.args.fd c.args.changes.now c.args.room

pub returns-in-Err-clause-world : goal.returns-in-Err-clause-world
returns-in-Err-clause-world c place = still-kevent place (state_of c.args.self.now) c.args.pid c.args.fd c.args.changes.now c.args.room

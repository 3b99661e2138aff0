use Rattle.std.proofs.Common.{arith}
use Rattle.kq_model.specs.World.{named_by}
use Rattle.kq_objects.specs.Objects.{objects_of}
use Rattle.kq_process.specs.Processes.{table_of, descriptor_in}
use Rattle.kq_process.specs.State.{state_of}
use Rattle.kq_process.proofs.Shared.{close_world}
use Rattle.kq_process.proofs.NamesThere.{named-there}
use Rattle.kq_process.proofs.Sound.{once-some, can-release_there, sound-closed}
use Rattle.kq_process.proofs.state.State.close.Goals as goal

pub overflow_sub-self : goal.overflow_sub-self
overflow_sub-self c =
    let old = c.args.self.now in
    let some = once-some (descriptor_in c.args.pid (c.args.fd, c.in-Ok.named)) (table_of old.processes) c.in-Ok.ensures.once in
    let all = old.sound.number_is in
    omega arith

pub release_one-requires-clause-can : goal.release_one-requires-clause-can
unfolding named_by
release_one-requires-clause-can c =
    let old = c.args.self.now in
    can-release_there (table_of old.processes) (objects_of old.objects) old.descriptors old.sound c.in-Ok.named
    (named-there c.args.pid c.args.fd (table_of old.processes) c.in-Ok.named c.in-Ok.ensures.named)

pub invariant_of-self : goal.invariant_of-self
invariant_of-self c =
    let old = c.args.self.now in
    record {
      sound = sound-closed (table_of old.processes) (objects_of old.objects) old.descriptors old.sound
          (descriptor_in c.args.pid (c.args.fd, c.in-Ok.named)) c.in-Ok.ensures.once (table_of c.close.new.self)
          (objects_of c.release_one.new.objects) c.close.ensures.table c.release_one.ensures.objects;
      moment = old.moment;
    }

pub returns-clause-world : goal.returns-clause-world
returns-clause-world c place =
    close_world (state_of c.args.self.now) place c.args.pid c.args.fd c.in-Ok.named _ _ _ c.in-Ok.ensures.live c.in-Ok.ensures.named
    c.close.ensures.processes c.close.ensures.table c.release_one.ensures.objects

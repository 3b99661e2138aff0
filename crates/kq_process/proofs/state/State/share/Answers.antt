use Rattle.std.proofs.Common.{refl, sym, subst, ℕ}
use Rattle.kq_model.specs.DescriptorPlans.{closes, close_hints}
use Rattle.kq_model.specs.World.{named_by}
use Rattle.kq_objects.specs.Objects.{objects_of}
use Rattle.kq_process.specs.Counts.{IsSound}
use Rattle.kq_process.specs.Processes.{table_of, descriptor_in}
use Rattle.kq_process.specs.State.{state_of}
use Rattle.kq_process.proofs.Closing.{opened-anew}
use Rattle.kq_process.proofs.Shared.{share_world}
use Rattle.kq_process.proofs.Sound.{can-hold_there, sound-shared}
use Rattle.kq_process.proofs.state.State.share.Goals as goal

pub hold-requires : goal.hold-requires
hold-requires c =
    let old = c.args.self.now in
    can-hold_there (table_of old.processes) (objects_of old.objects) old.descriptors old.sound c.args.named c.requires.there
    c.in-Some.ensures.0

pub invariant_of-self-2 : goal.invariant_of-self-2
unfolding named_by
invariant_of-self-2 c =
    let old = c.args.self.now in
    let Sound : ℕ → Type 0 = λ k. IsSound (table_of c.name.new.self) (objects_of c.hold.new.self) k in
    record {
      sound = subst Sound (sym c.in-Some.ensures.1) (sound-shared (table_of old.processes) (objects_of old.objects) old.descriptors
          old.sound (descriptor_in c.args.pid (c.args.to, c.args.named)) (table_of c.name.new.self) (objects_of c.hold.new.self) c.in-Some.ensures.0
          (opened-anew c.args.pid c.args.to c.args.named (table_of old.processes) (table_of c.name.new.self) _ c.requires.absent
          c.in_ok-name.ensures.table) c.hold.ensures);
      moment = old.moment;
    }

pub returns-clause-effect : goal.returns-clause-effect
unfolding closes close_hints
returns-clause-effect c = c.quiet.ensures _ refl refl

pub returns-clause-world : goal.returns-clause-world
unfolding named_by
returns-clause-world c place =
    let old = c.args.self.now in
    share_world (state_of old) place c.args.pid c.args.to c.args.named _ _ _ c.name.ensures.processes
    (opened-anew c.args.pid c.args.to c.args.named (table_of old.processes) (table_of c.name.new.self) _ c.requires.absent
    c.in_ok-name.ensures.table) c.hold.ensures

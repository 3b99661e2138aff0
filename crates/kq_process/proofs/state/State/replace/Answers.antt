use Rattle.std.proofs.Common.{◌≡◌, ◌∷◌, [], Option, Some, None, List, ap, ℕ, ◌∙◌}
use Rattle.kq_model.specs.declared.object.Named.{Named}
use Rattle.kq_model.specs.Descriptors.{Descriptor, with_descriptor, without_closed}
use Rattle.kq_model.specs.DescriptorPlans.{closes}
use Rattle.kq_model.specs.Holders.{hold}
use Rattle.kq_model.specs.World.{named_by}
use Rattle.kq_objects.specs.Objects.{objects_of}
use Rattle.kq_process.specs.Processes.{table_of, descriptor_in}
use Rattle.kq_process.specs.State.{state_of}
use Rattle.kq_process.proofs.Shared.{replace_world}
use Rattle.kq_process.proofs.NamesThere.{named-there}
use Rattle.kq_process.proofs.Sound.{can-release_there, can-hold_again, sound-replaced}
use Rattle.kq_process.proofs.state.State.replace.Goals as goal

-- the number was open, and is closed first
reopened : (pid to : ℕ) (b n : Named) (t t' : List Descriptor) (before : Option Named) → before ≡ Some b
    → t' ≡ with_descriptor (descriptor_in pid (to, n)) (without_closed (closes pid to before) t)
    → t' ≡ with_descriptor (descriptor_in pid (to, n)) (without_closed (record { pid = pid; number = to } ∷ []) t)
unfolding closes
reopened pid to b n t t' None there is = absurd (cc)
reopened pid to b n t t' (Some c) there is = is

pub release_one-requires-clause-can : goal.release_one-requires-clause-can
unfolding named_by
release_one-requires-clause-can c =
    let old = c.args.self.now in
    can-release_there (table_of old.processes) (objects_of old.objects) old.descriptors old.sound c.args.before
    (named-there c.args.pid c.args.to (table_of old.processes) c.args.before c.requires.before)

pub hold-requires : goal.hold-requires
unfolding named_by
hold-requires c =
    let old = c.args.self.now in
    can-hold_again c.args.pid c.args.fd c.args.to c.args.before c.args.named (table_of old.processes) (objects_of old.objects)
    old.descriptors old.sound c.requires.once c.requires.there c.requires.other
    (objects_of c.release_one.new.objects) c.release_one.ensures.objects

pub invariant_of-self-2 : goal.invariant_of-self-2
unfolding named_by
invariant_of-self-2 c =
    let old = c.args.self.now in
    record {
      sound = sound-replaced c.args.pid c.args.fd c.args.to c.args.before c.args.named (table_of old.processes) (objects_of old.objects)
          old.descriptors old.sound c.requires.once (table_of c.name.new.self) (objects_of c.hold.new.self)
          (reopened c.args.pid c.args.to c.args.before c.args.named (table_of old.processes) (table_of c.name.new.self) _
          c.requires.before c.in_ok-name.ensures.table)
          (c.hold.ensures ∙ ap (hold c.args.named) c.release_one.ensures.objects);
      moment = old.moment;
    }

pub returns-clause-world : goal.returns-clause-world
unfolding named_by
returns-clause-world c place =
    let old = c.args.self.now in
    replace_world (state_of old) place c.args.pid c.args.to c.args.before c.args.named _ _ _ c.name.ensures.processes
    (reopened c.args.pid c.args.to c.args.before c.args.named (table_of old.processes) (table_of c.name.new.self) _
    c.requires.before c.in_ok-name.ensures.table)
    (c.hold.ensures ∙ ap (hold c.args.named) c.release_one.ensures.objects)

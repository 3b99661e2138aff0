use Rattle.std.proofs.Common.{◌<◌, ◌^◌, [], ◌∷◌, refl, sym, ap, arith, ◌∙◌}
use Rattle.kq_model.specs.Descriptors.{with_descriptors}
use Rattle.kq_model.specs.Objects.{all_done}
use Rattle.kq_model.specs.World.{named_by}
use Rattle.kq_model.proofs.NamedWorld.{free-next}
use Rattle.kq_objects.specs.Objects.{objects_of}
use Rattle.kq_process.specs.Processes.{table_of, descriptor_in}
use Rattle.kq_process.specs.State.{state_of}
use Rattle.kq_process.proofs.Acted.{act_plan, act_world, sound-act}
use Rattle.kq_process.proofs.Closing.{opened-anew}
use Rattle.kq_process.proofs.state.State.act_naming.Goals as goal

pub plan-requires : goal.plan-requires
plan-requires c = free-next c.args.place (state_of c.args.self.now) c.requires.earlier

pub invariant_of-self-in-Ok : goal.invariant_of-self-in-Ok
unfolding with_descriptors named_by
invariant_of-self-in-Ok c =
    let old = c.args.self.now in
    let fits : c.in-Some.descriptors < 2 ^ 64 = omega arith in
    record {
      sound = sound-act c.args.place c.args.act.now (state_of old) c.in-Ok.plan c.in-Ok.ensures.plan
          (descriptor_in c.args.pid (c.args.number, c.args.named) ∷ []) old.descriptors c.in-Some.descriptors
          old.sound (sym c.requires.made) c.in-Some.ensures.1 fits (table_of c.name.new.self) (objects_of c.commit.new.self)
          (opened-anew c.args.pid c.args.number c.args.named (table_of old.processes) (table_of c.name.new.self) _
          c.requires.absent c.in_ok-name-in-Ok.ensures.table)
          (c.commit.ensures.done ∙ ap (all_done c.in-Ok.plan.doings) c.plan.ensures.same);
      moment = old.moment;
    }

pub returns-in_ok-name-in-Ok-clause-effect : goal.returns-in_ok-name-in-Ok-clause-effect
returns-in_ok-name-in-Ok-clause-effect c =
    rw (act_plan c.args.place c.args.act.now (state_of c.args.self.now) c.in-Ok.plan c.in-Ok.ensures.plan
    (descriptor_in c.args.pid (c.args.number, c.args.named) ∷ []))
    (c.telling.ensures _ refl (sym c.in_ok-hints-in-Ok.ensures))

pub returns-in_ok-name-in-Ok-clause-world : goal.returns-in_ok-name-in-Ok-clause-world
unfolding with_descriptors named_by
returns-in_ok-name-in-Ok-clause-world c =
    let old = c.args.self.now in
    act_world c.args.place c.args.act.now (state_of old) c.in-Ok.plan c.in-Ok.ensures.plan
    (descriptor_in c.args.pid (c.args.number, c.args.named) ∷ []) _ _ _ c.name.ensures.processes
    (opened-anew c.args.pid c.args.number c.args.named (table_of old.processes) (table_of c.name.new.self) _
    c.requires.absent c.in_ok-name-in-Ok.ensures.table)
    (c.commit.ensures.done ∙ ap (all_done c.in-Ok.plan.doings) c.plan.ensures.same)

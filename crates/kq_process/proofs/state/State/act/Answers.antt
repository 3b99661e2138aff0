use Rattle.std.proofs.Common.{[], refl, sym, ap, arith, ◌∙◌}
use Rattle.kq_model.specs.Descriptors.{with_descriptors}
use Rattle.kq_model.specs.Objects.{all_done}
use Rattle.kq_model.proofs.NamedWorld.{free-next}
use Rattle.kq_objects.specs.Objects.{objects_of}
use Rattle.kq_process.specs.Processes.{table_of}
use Rattle.kq_process.specs.State.{state_of}
use Rattle.kq_process.proofs.Acted.{act_plan, act_world, sound-act}
use Rattle.kq_process.proofs.state.State.act.Goals as goal

pub plan-requires : goal.plan-requires
plan-requires c = free-next c.args.place (state_of c.args.self.now) c.requires.earlier

pub invariant_of-self-in-Ok : goal.invariant_of-self-in-Ok
unfolding with_descriptors
invariant_of-self-in-Ok c =
    let old = c.args.self.now in
    let fits = old.sound.fits in
    record {
      sound = sound-act c.args.place c.args.act.now (state_of old) c.in-Ok.plan c.in-Ok.ensures.plan [] old.descriptors old.descriptors
          old.sound (sym c.requires.none) (omega arith) fits (table_of old.processes) (objects_of c.commit.new.self) refl
          (c.commit.ensures.done ∙ ap (all_done c.in-Ok.plan.doings) c.plan.ensures.same);
      moment = old.moment;
    }

pub returns-in_ok-hints-in-Ok-clause-effect : goal.returns-in_ok-hints-in-Ok-clause-effect
returns-in_ok-hints-in-Ok-clause-effect c =
    rw (act_plan c.args.place c.args.act.now (state_of c.args.self.now) c.in-Ok.plan c.in-Ok.ensures.plan [])
    (c.telling.ensures _ refl (sym c.in_ok-hints-in-Ok.ensures))

pub returns-in_ok-hints-in-Ok-clause-world : goal.returns-in_ok-hints-in-Ok-clause-world
unfolding with_descriptors
returns-in_ok-hints-in-Ok-clause-world c =
    let old = c.args.self.now in
    act_world c.args.place c.args.act.now (state_of old) c.in-Ok.plan c.in-Ok.ensures.plan [] _ _ _ refl refl
    (c.commit.ensures.done ∙ ap (all_done c.in-Ok.plan.doings) c.plan.ensures.same)

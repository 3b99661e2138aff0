use Rattle.std.proofs.Common.{◌<◌, ◌^◌, refl, sym, ap, arith, ◌∙◌}
use Rattle.kq_model.specs.declared.act.Act.TheVariants as act
use Rattle.kq_model.specs.Holders.{made_names}
use Rattle.kq_model.specs.ObjectRecordPlans.{pipe_ends}
use Rattle.kq_model.specs.Objects.{all_done}
use Rattle.kq_model.specs.World.{named_by}
use Rattle.kq_model.proofs.NamedWorld.{free-next}
use Rattle.kq_objects.specs.Objects.{objects_of}
use Rattle.kq_process.specs.Processes.{table_of}
use Rattle.kq_process.specs.State.{state_of}
use Rattle.kq_process.proofs.Acted.{act_plan, act_world, sound-act}
use Rattle.kq_process.proofs.state.State.make_pipe.Goals as goal

pub plan-requires : goal.plan-requires
plan-requires c = free-next c.args.place (state_of c.args.self.now) c.requires.earlier

pub name_both-requires-clause-first : goal.name_both-requires-clause-first
unfolding named_by
name_both-requires-clause-first c = c.requires.read

pub name_both-requires-clause-second : goal.name_both-requires-clause-second
unfolding named_by
name_both-requires-clause-second c = c.requires.write

pub invariant_of-self-in-Ok : goal.invariant_of-self-in-Ok
unfolding made_names
invariant_of-self-in-Ok c =
    let old = c.args.self.now in
    let fits : c.in-Some.descriptors < 2 ^ 64 = omega arith in
    record {
      sound = sound-act c.args.place (act.Pipe c.args.cap) (state_of old) c.in-Ok.plan c.in-Ok.ensures.plan
          (pipe_ends c.args.place c.args.pid c.args.read_fd c.args.write_fd) old.descriptors c.in-Some.descriptors
          old.sound refl c.in-Some.ensures.1 fits (table_of c.name_both.new.self) (objects_of c.commit.new.self)
          c.in_ok-name_both-in-Ok.ensures.table
          (c.commit.ensures.done ∙ ap (all_done c.in-Ok.plan.doings) c.plan.ensures.same);
      moment = old.moment;
    }

pub returns-in_ok-name_both-in-Ok-clause-effect : goal.returns-in_ok-name_both-in-Ok-clause-effect
returns-in_ok-name_both-in-Ok-clause-effect c =
    rw (act_plan c.args.place (act.Pipe c.args.cap) (state_of c.args.self.now) c.in-Ok.plan c.in-Ok.ensures.plan
    (pipe_ends c.args.place c.args.pid c.args.read_fd c.args.write_fd))
    (c.telling.ensures _ refl (sym c.in_ok-hints-in-Ok.ensures))

pub returns-in_ok-name_both-in-Ok-clause-world : goal.returns-in_ok-name_both-in-Ok-clause-world
returns-in_ok-name_both-in-Ok-clause-world c =
    let old = c.args.self.now in
    act_world c.args.place (act.Pipe c.args.cap) (state_of old) c.in-Ok.plan c.in-Ok.ensures.plan
    (pipe_ends c.args.place c.args.pid c.args.read_fd c.args.write_fd) _ _ _ c.name_both.ensures.processes
    c.in_ok-name_both-in-Ok.ensures.table
    (c.commit.ensures.done ∙ ap (all_done c.in-Ok.plan.doings) c.plan.ensures.same)

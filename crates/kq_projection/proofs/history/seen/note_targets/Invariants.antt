use Rattle.std.proofs.Common.{◌≡◌, ◌&&◌, ℕ, leb, cond, take, None}
use Rattle.kq_model.specs.declared.object.Target.{Target}
use Rattle.kq_model.specs.World.{views_of}
use Rattle.kq_process.specs.World.{world_of}
use Rattle.kq_projection.specs.Keys.{target_key}
use Rattle.kq_projection.specs.Timeline.{value_at}
use Rattle.kq_projection.specs.Timelines.{marks_at, AreUpTo}
use Rattle.kq_projection.specs.Touched.{has_target}
use Rattle.kq_projection.proofs.history.seen.note_targets.Given as goal

abbrev pub invariant-loop-target : goal.invariant-loop-target
invariant-loop-target l = record {
  up_to : AreUpTo target_key l.place l.timelines.table;
  noted : (t : Target) (at : ℕ) → value_at at None (marks_at target_key l.timelines.table t)
      ≡ cond (has_target t (take l.target-index l.targets) && leb l.place at) ((views_of (world_of l.world)).view t)
      (value_at at None (marks_at target_key l.initial.timelines.table t));
}

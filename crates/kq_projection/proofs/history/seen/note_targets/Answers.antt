use Rattle.std.proofs.Common.{◌≡◌, ◌∙◌, ◌<◌, ◌&&◌, ◌++◌, Bool, cond, leb, length, get_or, not, take, None, Option, sym, ap, subst, rules, arith}
use Rattle.kq_model.specs.declared.object.Target.{Target}
use Rattle.kq_model.specs.declared.object.Target.TheVariants.{Socket}
use Rattle.kq_model.specs.declared.object.View.{View}
use Rattle.kq_model.specs.Targets.{target_eq}
use Rattle.kq_model.specs.Views.{Views}
use Rattle.kq_model.specs.World.{views_of}
use Rattle.kq_model.proofs.SameTarget.{same_target}
use Rattle.kq_process.specs.World.{world_of}
use Rattle.kq_projection.specs.Keys.{target_key}
use Rattle.kq_projection.specs.Timeline.{last_value, marked, value_at, IsUpTo}
use Rattle.kq_projection.specs.Timelines.{marks_at}
use Rattle.kq_projection.specs.Touched.{has_target}
use Rattle.kq_projection.proofs.Following.{marked-more, up_to-marked, value-noted}
use Rattle.kq_projection.proofs.NotedKeys.{any-more, as_target}
use Rattle.kq_projection.proofs.SameValues.{same_view, view_eq}
use Rattle.kq_projection.proofs.history.seen.note_targets.Goals as goal

pub loop-target-preserved : goal.loop-target-preserved
unfolding views_of
loop-target-preserved c =
    let ts = c.args.targets.now in
    let place = c.args.place in
    let i = c.loop-target.target-index in
    let below : i < length ts = omega arith in
    let x : Target = get_or ts i (Socket 0) in
    let here : Option View = c.view.result in
    let after : Views = views_of (world_of c.args.world.now) in
    let here_is : here ≡ after.view x = search rules in
    let start = c.args.timelines.now.table in
    let old = c.loop-target.timelines.table in
    let new = c.note.new.self.table in
    let had : Bool = view_eq (last_value None (marks_at target_key old x)) here in
    let came : (t : Target) → marks_at target_key new t ≡ marks_at target_key old t ++ marked (target_key x t && not had) place here =
    c.in_ok-note.ensures.noted in
    let put : (t : Target) → marks_at target_key new t ≡ marks_at target_key old t ++ marked (target_eq x t && not had) place here =
    λ t. came t ∙ ap (λ b. marks_at target_key old t ++ marked (b && not had) place here) (as_target x t) in
    let up : (t : Target) → IsUpTo place (marks_at target_key old t) = c.loop-target.invariant.up_to in
    record {
      up_to = λ t. subst (IsUpTo place) (sym (put t)) (up_to-marked (target_eq x t && not had) place here (marks_at target_key old t) (up t));
      noted = λ t at.
          let is = target_eq x t in
          let any = has_target t (take i ts) in
          let read = after.view t in
          let before = value_at at None (marks_at target_key start t) in
          ap (value_at at None) (put t)
          ∙ value-noted is had place at None here (marks_at target_key old t) (up t)
          (λ same kept. ap (λ (y : Target). last_value None (marks_at target_key old y)) (sym (same_target x t same))
          ∙ same_view (last_value None (marks_at target_key old x)) here kept)
          ∙ ap (λ v. cond (is && leb place at) here v) (c.loop-target.invariant.noted t at)
          ∙ marked-more is any (leb place at) here read before (λ same. here_is ∙ ap after.view (same_target x t same))
          ∙ ap (λ b. cond (b && leb place at) read before) (sym (any-more (λ (y : Target). target_eq y t) ts i (Socket 0) below));
    }

use Rattle.std.proofs.Common.{OnOk, Result, Ok, Err, sym, subst}
use Rattle.kq_model.specs.declared.why.Why.{Why}
use Rattle.kq_model.specs.Objects.{counted}
use Rattle.kq_model.specs.World as model
use Rattle.kq_process.specs.World.{world_of}
use Rattle.kq_projection.specs.Tracked.{IsFollowedBy}
use Rattle.kq_projection.proofs.history.tracking.follow.Goals as goal

on_both : {T E : Type 0} {P Q R : Type 0} (r : Result T E) → (P → Q → R) → OnOk r P → OnOk r Q → OnOk r R
on_both (Ok x) then p q = then p q
on_both (Err e) then p q = tt

pub returns-in-Ok : goal.returns-in-Ok
returns-in-Ok c =
    let effect = c.args.effect.now in
    subst (λ (v : Result (Unit {0}) Why). OnOk c.note.result ((before : model.World counted)
    → IsFollowedBy c.args.place c.args.event.now v effect.closed effect.hints before (world_of c.args.world.now) c.args.seen.now c.note.new.seen)) (sym c.in-Ok.is)
    (on_both c.note.result (λ up noted before. (up, noted before)) c.note.ensures.up_to c.note.ensures.noted)

use Rattle.std.proofs.Common.{Result, Ok, Err, sym, subst}
use Rattle.std.specs.Result.{OnOk}
use Rattle.kq_model.specs.declared.event.Event.{Event}
use Rattle.kq_model.specs.World.{views_of}
use Rattle.kq_process.specs.World.{world_of}
use Rattle.kq_projection.specs.Messages.{AreHeard}
use Rattle.kq_projection.specs.Sayings.{born_of, call_by}
use Rattle.kq_projection.proofs.history.message_log.hear_kqueue.Goals as goal

on_ok_both : {T E : Type 0} (P Q : Type 0) (r : Result T E) → OnOk r P → OnOk r Q → OnOk r (P × Q)
on_ok_both P Q (Ok x) p q = (p, q)
on_ok_both P Q (Err e) p q = tt

pub returns-in-Kqueue : goal.returns-in-Kqueue
unfolding born_of
returns-in-Kqueue c =
    subst (λ (e : Event). OnOk c.bear.result (AreHeard c.args.place (born_of e) (call_by e c.args.kqueue)
    (views_of (world_of c.args.world.now)) c.args.kqueues.now c.bear.new.self))
    (sym c.in-Kqueue.is) (on_ok_both _ _ c.bear.result c.bear.ensures.places c.bear.ensures.concerned)

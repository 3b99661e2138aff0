use Rattle.std.proofs.Common.{◌∙◌, ap, sym, subst}
use Rattle.kq_model.specs.ObjectPlan.{ObjectPlan}
use Rattle.kq_model.specs.Objects as model
use Rattle.kq_objects.specs.declared.objects.Objects.{Objects}
use Rattle.kq_objects.specs.Objects.{IsReady}
use Rattle.kq_objects.proofs.Ready.{ready-new_socket}
use Rattle.kq_objects.proofs.objects.Objects.plan_socket.Goals as goal

pub returns-clause-ready : goal.returns-clause-ready
returns-clause-ready c =
    let after : Objects = c.reserve_socket.new.self in
    let Ready : ObjectPlan → Type 0 = λ p. IsReady p.doings after in
    subst Ready (sym c.of_one.ensures)
    (ready-new_socket after c.args.place c.args.receive_buffer c.args.send_buffer
    (ap (λ (o : model.Objects model.counted). o.socket c.args.place) c.reserve_socket.ensures.same ∙ c.requires) c.in_ok-reserve_socket.ensures.room)

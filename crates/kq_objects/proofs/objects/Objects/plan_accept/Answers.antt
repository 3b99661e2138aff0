use Rattle.std.proofs.Common.{◌≡◌, ◌∙◌, ℕ, ap, sym, subst}
use Rattle.kq_model.specs.ObjectPlan.{ObjectPlan}
use Rattle.kq_model.specs.Objects as model
use Rattle.kq_objects.specs.declared.objects.Objects.{Objects}
use Rattle.kq_objects.specs.Objects.{objects_of, IsReady}
use Rattle.kq_objects.proofs.Ready.{ready-accept-notes}
use Rattle.kq_objects.proofs.objects.Objects.plan_accept.Goals as goal

pub returns-clause-ready : goal.returns-clause-ready
returns-clause-ready c =
    let after : Objects = c.reserve_socket.new.self in
    let Ready : ObjectPlan → Type 0 = λ p. IsReady p.doings after in
    let same : (q : ℕ) → (objects_of after).socket q ≡ (objects_of c.args.self.now).socket q =
    λ q. ap (λ (o : model.Objects model.counted). o.socket q) c.reserve_socket.ensures.same in
    subst Ready (sym c.in_ok-preceded_by.ensures)
    (ready-accept-notes after (objects_of c.args.self.now) c.args.place c.args.receive_buffer c.args.send_buffer c.in_ok-taken.taken.doings
    (same c.args.place ∙ c.requires) same c.in_ok-taken.ensures.notes c.in_ok-reserve_socket.ensures.room)

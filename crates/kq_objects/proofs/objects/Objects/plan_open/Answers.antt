use Rattle.std.proofs.Common.{◌∙◌, ◌<◌, Option, IfSome, ap, sym, subst}
use Rattle.kq_model.specs.Files.{FileState}
use Rattle.kq_model.specs.ObjectPlan.{ObjectPlan}
use Rattle.kq_model.specs.Objects as model
use Rattle.kq_objects.specs.declared.objects.Objects.{Objects}
use Rattle.kq_objects.specs.Objects.{spare_room, IsReady}
use Rattle.kq_objects.proofs.Ready.{ready-open}
use Rattle.kq_objects.proofs.objects.Objects.plan_open.Goals as goal

pub returns-clause-ready : goal.returns-clause-ready
returns-clause-ready c =
    let after : Objects = c.reserve_open.new.self in
    let Ready : ObjectPlan → Type 0 = λ p. IsReady p.doings after in
    let Room : Option FileState → Type 0 = λ x. IfSome x (λ s. 0 < (spare_room after).on_file c.args.number) in
    let there = ap (λ (o : model.Objects model.counted). o.file c.args.number) c.reserve_open.ensures.same ∙ c.in-Some.ensures.there in
    subst Ready (sym c.in_ok-of_two.ensures)
    (ready-open after c.args.place c.args.number c.args.mode _
    (ap (λ (o : model.Objects model.counted). o.description c.args.place) c.reserve_open.ensures.same ∙ c.requires) there
    c.in_ok-reserve_open.ensures.room (subst Room there c.in_ok-reserve_open.ensures.on_file))

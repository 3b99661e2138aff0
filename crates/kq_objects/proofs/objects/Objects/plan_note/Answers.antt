use Rattle.std.proofs.Common.{◌≡◌, ◌∙◌, List, ap, sym, subst}
use Rattle.kq_model.specs.declared.doing.Doing.{Doing}
use Rattle.kq_model.specs.FilePlans.{deletion}
use Rattle.kq_model.specs.ObjectPlan.{ObjectPlan}
use Rattle.kq_objects.specs.Objects.{IsReady}
use Rattle.kq_objects.specs.Plans.{in_turn}
use Rattle.kq_objects.proofs.Ready.{ready-deletion}
use Rattle.kq_objects.proofs.objects.Objects.plan_note.Goals as goal

pub returns-clause-ready : goal.returns-clause-ready
returns-clause-ready c =
    let PlanReady : ObjectPlan → Type 0 = λ p. IsReady p.doings c.args.self.now in
    let Ready : List Doing → Type 0 = λ ds. IsReady ds c.args.self.now in
    let noted : in_turn c.deletion.result c.new-rest.result.items ≡ deletion c.args.number c.args.note =
    ap (in_turn c.deletion.result) c.new-rest.ensures.items ∙ c.deletion.ensures in
    subst PlanReady (sym c.of.ensures) (subst Ready (sym noted)
    (ready-deletion c.args.self.now c.args.number c.args.note _ c.in-Some.ensures.there))

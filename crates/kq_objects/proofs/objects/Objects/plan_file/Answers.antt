use Rattle.std.proofs.Common.{◌≡◌, ◌∙◌, None, ap, sym, subst, rules}
use Rattle.kq_model.specs.ObjectPlan.{ObjectPlan}
use Rattle.kq_model.specs.Objects as model
use Rattle.kq_objects.specs.declared.objects.Objects.{Objects}
use Rattle.kq_objects.specs.Files.{file_at}
use Rattle.kq_objects.specs.Objects.{IsReady}
use Rattle.kq_objects.proofs.Ready.{ready-new_file}
use Rattle.kq_objects.proofs.objects.Objects.plan_file.Goals as goal

pub returns-clause-ready : goal.returns-clause-ready
returns-clause-ready c =
    let after : Objects = c.reserve_file.new.self in
    let Ready : ObjectPlan → Type 0 = λ p. IsReady p.doings after in
    let none : file_at c.args.self.now.files c.args.number ≡ None = search rules in
    subst Ready (sym c.of_one.ensures)
    (ready-new_file after c.args.number c.in-Some.size
    (ap (λ (o : model.Objects model.counted). o.file c.args.number) c.reserve_file.ensures.same ∙ none) c.in-Some.ensures.within c.in_ok-reserve_file.ensures.room)

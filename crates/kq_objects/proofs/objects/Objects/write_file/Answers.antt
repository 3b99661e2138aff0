use Rattle.std.proofs.Common.{◌≡◌, ◌+◌, ◌≤◌, List, ◌∷◌, Option, Some, option_map, sym, ap, subst, arith}
use Rattle.kq_model.specs.declared.doing.DescriptionRecord.TheVariants as description
use Rattle.kq_model.specs.declared.doing.Doing.{Doing}
use Rattle.kq_model.specs.declared.doing.Doing.TheVariants.{ToDescription}
use Rattle.kq_model.specs.Files.{DescriptionState}
use Rattle.kq_model.specs.Limits.{most_file_size}
use Rattle.kq_model.specs.ObjectPlan.{ObjectPlan}
use Rattle.kq_objects.specs.Files.{file_at}
use Rattle.kq_objects.specs.Fits.{FitsDescriptionAt}
use Rattle.kq_objects.specs.Kept.{FileKept}
use Rattle.kq_objects.specs.Objects.{IsReady}
use Rattle.kq_objects.proofs.Ready.{ready-write}
use Rattle.kq_objects.proofs.objects.Objects.write_file.Goals as goal

pub returns-clause-ready : goal.returns-clause-ready
returns-clause-ready c =
    let PlanReady : ObjectPlan → Type 0 = λ p. IsReady p.doings c.args.self.now in
    let Ready : List Doing → Type 0 = λ rest. IsReady (ToDescription c.args.place (description.Moved c.args.bytes) ∷ rest) c.args.self.now in
    let within : c.offset.result + c.from.result ≤ most_file_size = omega arith in
    let moved : c.in-Some.description.now.offset + c.args.bytes ≤ most_file_size = omega arith in
    let Fits : Option DescriptionState → Type 0 = FitsDescriptionAt (description.Moved c.args.bytes) in
    let there : file_at c.args.self.now.files c.file-number.result ≡ Some c.in-Some-get.file.now.state =
    sym (ap (option_map (λ (kept : FileKept). kept.state)) c.in-Some-get.ensures) in
    subst PlanReady (sym c.of.ensures) (subst Ready (sym c.in_ok-reached.ensures)
    (ready-write c.args.self.now c.args.place c.file-number.result c.args.bytes (c.offset.result + c.from.result) _
    (subst Fits c.in-Some.ensures moved) there within))

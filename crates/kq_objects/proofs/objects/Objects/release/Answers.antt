use Rattle.std.proofs.Common.{◌≡◌, sym, subst}
use Rattle.kq_model.specs.declared.object.Named.{Named}
use Rattle.kq_model.specs.Holding.{release}
use Rattle.kq_objects.specs.Objects.{objects_of}
use Rattle.kq_objects.proofs.objects.Objects.release.Goals as goal

pub returns-in-Open-clause-done : goal.returns-in-Open-clause-done
returns-in-Open-clause-done c =
    let Released : Named → Type 0 = λ n. objects_of c.release_description.new.self ≡ release n (objects_of c.args.self.now) in
    subst Released (sym c.in-Open.is) (c.release_description.ensures.done _)

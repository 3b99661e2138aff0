use Rattle.std.proofs.Common.{◌≡◌, ◌∙◌, ap, arith}
use Rattle.std.proofs.Math.Path.{fun_ext}
use Rattle.kq_objects.specs.declared.objects.Objects.{Objects}
use Rattle.kq_objects.specs.Objects.{objects_of}
use Rattle.kq_objects.proofs.Ready.{still-ready}
use Rattle.kq_objects.proofs.objects.Objects.reserve_open.Goals as goal

pub returns-in_err-reserve-clause-stays : goal.returns-in_err-reserve-clause-stays
returns-in_err-reserve-clause-stays c = λ ds ready.
    let old = c.args.self.now in
    let after : Objects = record old { descriptions = c.reserve.new.self } in
    let same : objects_of after ≡ objects_of old = ap (λ f. record (objects_of old) { description = f }) (fun_ext c.reserve.ensures.same) in
    still-ready ds old after same (omega arith) (omega arith) c.reserve.ensures.kept (omega arith) (λ number. omega arith) ready

pub returns-clause-stays : goal.returns-clause-stays
returns-clause-stays c = λ ds ready.
    let old = c.args.self.now in
    let after : Objects = record old { descriptions = c.reserve.new.self; files = c.reserve_on.new.self } in
    let same : objects_of after ≡ objects_of old =
    ap (λ f. record (objects_of old) { description = f; file = (objects_of after).file }) (fun_ext c.reserve.ensures.same)
    ∙ ap (λ f. record (objects_of old) { file = f }) (fun_ext c.reserve_on.ensures.same) in
    still-ready ds old after same (omega arith) (omega arith) c.reserve.ensures.kept c.reserve_on.ensures.kept c.reserve_on.ensures.room_on ready

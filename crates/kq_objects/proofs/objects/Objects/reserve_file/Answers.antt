use Rattle.std.proofs.Common.{◌≡◌, ap, arith}
use Rattle.std.proofs.Math.Path.{fun_ext}
use Rattle.kq_objects.specs.declared.objects.Objects.{Objects}
use Rattle.kq_objects.specs.Objects.{objects_of}
use Rattle.kq_objects.proofs.Ready.{still-ready}
use Rattle.kq_objects.proofs.objects.Objects.reserve_file.Goals as goal

pub returns-clause-stays : goal.returns-clause-stays
returns-clause-stays c = λ ds ready.
    let old = c.args.self.now in
    let after : Objects = record old { files = c.reserve.new.self } in
    let same : objects_of after ≡ objects_of old = ap (λ f. record (objects_of old) { file = f }) (fun_ext c.reserve.ensures.same) in
    still-ready ds old after same (omega arith) (omega arith) (omega arith) c.reserve.ensures.kept c.reserve.ensures.room_on ready

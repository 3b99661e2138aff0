use Rattle.std.proofs.Common.{◌≡◌, ap, arith}
use Rattle.std.proofs.Math.Path.{fun_ext}
use Rattle.kq_objects.specs.declared.objects.Objects.{Objects}
use Rattle.kq_objects.specs.Objects.{objects_of}
use Rattle.kq_objects.proofs.Ready.{still-ready}
use Rattle.kq_objects.proofs.objects.Objects.reserve_socket.Goals as goal

pub returns-clause-stays : goal.returns-clause-stays
returns-clause-stays c = λ ds ready.
    let old = c.args.self.now in
    let after : Objects = record old { sockets = c.reserve.new.self } in
    let same : objects_of after ≡ objects_of old = ap (λ f. record (objects_of old) { socket = f }) (fun_ext c.reserve.ensures.same) in
    still-ready ds old after same c.reserve.ensures.kept (omega arith) (omega arith) (omega arith) (λ number. omega arith) ready

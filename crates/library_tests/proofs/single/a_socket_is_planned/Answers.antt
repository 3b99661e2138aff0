-- No object is anywhere at first.
use Rattle.std.proofs.Common.{refl, subst, sym}
use Rattle.kq_model.specs.Objects.{IsFree}
use Rattle.library_tests.proofs.single.a_socket_is_planned.Goals as goal

pub plan-requires : goal.plan-requires
plan-requires g c =
    subst (IsFree 3) (sym c.in_ok-objects.ensures) (record { socket = refl; pipe = refl; description = refl })

use Rattle.std.proofs.Common.{arith}
use Rattle.kq_process.proofs.Sound.{sound-new}
use Rattle.kq_process.proofs.state.State.new.Goals as goal

pub invariant_of-result : goal.invariant_of-result
invariant_of-result c = record { sound = sound-new _ _ c.new.ensures.table c.in_ok-new.ensures; moment = omega arith }

use Rattle.std.proofs.Common.{subst}
use Rattle.kq_model.specs.WatchedNumbers.{AllWatchTheirNumbers}
use Rattle.kq_system.specs.SystemState.{SystemState, system_of}
use Rattle.kq_system.proofs.system.System.watch_their_numbers.Goals as goal

pub returns : goal.returns
returns c =
    subst (λ (s : SystemState). AllWatchTheirNumbers (system_of s)) c.self.view_is c.self.invariant.watched

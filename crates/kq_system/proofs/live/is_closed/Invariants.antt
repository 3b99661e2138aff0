use Rattle.std.proofs.Common.{◌≡◌, drop}
use Rattle.kq_model.specs.Close.{has_pair}
use Rattle.kq_process.specs.Effects.{pairs_in}
use Rattle.kq_system.proofs.live.is_closed.Given as goal

abbrev pub invariant-loop-pair : goal.invariant-loop-pair
invariant-loop-pair l =
    has_pair l.pid l.number (pairs_in (drop l.pair-index l.pairs)) ≡ has_pair l.pid l.number (pairs_in l.pairs)

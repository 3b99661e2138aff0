use Rattle.std.proofs.Common.{◌≡◌, drop}
use Rattle.kq_model.specs.Close.{closed}
use Rattle.kq_process.specs.Effects.{pairs_in}
use Rattle.kq_system.proofs.live.close.Given as goal

abbrev pub invariant-loop-pair : goal.invariant-loop-pair
invariant-loop-pair l =
    (closed l.fn.kq.owner (pairs_in (drop l.pair-index l.pairs)) l.kq.kq
    ≡ closed l.fn.kq.owner (pairs_in l.pairs) l.fn.kq.kq)
    × (l.kq.owner ≡ l.fn.kq.owner) × (l.kq.version ≡ l.fn.kq.version)

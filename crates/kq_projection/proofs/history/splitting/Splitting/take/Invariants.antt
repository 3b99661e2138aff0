use Rattle.std.proofs.Common.{◌≡◌, ◌++◌, length, take}
use Rattle.kq_projection.specs.Splitting.{IsSplitSoFar}
use Rattle.kq_projection.specs.Traced.{Traced}
use Rattle.kq_projection.proofs.history.splitting.Splitting.take.Given as goal

-- whatever trace came before, the records that were taken since follow it
abbrev pub invariant-loop-taken : goal.invariant-loop-taken
invariant-loop-taken l =
    (t : Traced) → length t.events ≡ l.before → IsSplitSoFar t l.fn.self
    → IsSplitSoFar (record { version = t.version; events = t.events ++ take l.taken l.events }) l.self

use Rattle.std.proofs.Common.{◌≡◌}
use Rattle.kq_shares.proofs.births.dealing_for.Given as goal

abbrev pub invariant-loop-seed : goal.invariant-loop-seed
invariant-loop-seed l = l.best.shares ≡ l.shares

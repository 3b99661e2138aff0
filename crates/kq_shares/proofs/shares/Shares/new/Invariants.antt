use Rattle.std.proofs.Common.{◌≡◌, map, length, Box, Global}
use Rattle.kq_model.specs.System.{empty_system}
use Rattle.kq_system.specs.declared.sharing.Share.{Share}
use Rattle.kq_shares.specs.Whole.{AreFrom}
use Rattle.kq_shares.proofs.shares.Shares.new.Given as goal

abbrev pub invariant-loop-number : goal.invariant-loop-number
invariant-loop-number l =
    (length l.shares.items ≡ l.number)
    × AreFrom 0 l.dealing 0 (empty_system l.version) (map (λ (b : Box Share Global). b.value) l.shares.items)

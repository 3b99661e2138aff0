use Rattle.std.proofs.Common.{◌≡◌}
use Rattle.kq_lock.specs.Turns.{IsSameSeat}
use Rattle.kq_lock.proofs.turn.draw.Given as goal

-- no ticket was drawn yet
abbrev pub invariant-loop : goal.invariant-loop
invariant-loop g l = IsSameSeat l.initial.token l.token × (l.token.me ≡ l.initial.token.me)

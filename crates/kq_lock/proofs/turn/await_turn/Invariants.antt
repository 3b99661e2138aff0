use Rattle.std.proofs.Common.{◌≡◌, []}
use Rattle.kq_lock.specs.Turns.{IsSameSeat, IsSameView}
use Rattle.kq_lock.specs.declared.view.Stage.TheVariants.{Waits}
use Rattle.kq_lock.proofs.turn.await_turn.Given as goal

-- the turn has not come yet
abbrev pub invariant-loop : goal.invariant-loop
invariant-loop g l = IsSameSeat l.initial.token l.token
    × IsSameView l.initial.token.me.0 l.token.me.0 × (l.token.me.0.stage ≡ Waits l.fn.ticket)
    × (l.token.me.1 ≡ [])

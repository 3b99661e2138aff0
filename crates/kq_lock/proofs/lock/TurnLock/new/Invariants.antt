use Rattle.std.proofs.Common.{◌≡◌, ◌+◌, ◌≤◌, vec_len, vec_capacity}
use Rattle.kq_lock.proofs.Seating.{MadeSeats}
use Rattle.kq_lock.proofs.lock.TurnLock.new.Given as goal

-- the seats made so far are fresh and apart, and there is room for the others
abbrev pub invariant-loop : goal.invariant-loop
invariant-loop g l = MadeSeats l.lock l.first l.all.items × (vec_len l.all + 1 ≡ l.counter)
    × (l.seats ≤ vec_capacity l.all)

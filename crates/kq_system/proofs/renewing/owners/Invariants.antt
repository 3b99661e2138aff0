use Rattle.std.proofs.Common.{◌≡◌, true, take, nat_eq}
use Rattle.kq_system.specs.Places.{has_place, places_at}
use Rattle.kq_system.specs.Showing.{Each}
use Rattle.kq_system.proofs.renewing.owners.Given as goal

abbrev pub invariant-loop-at : goal.invariant-loop-at
invariant-loop-at l =
    Each (λ place v. has_place place (places_at nat_eq l.owned.table v.kq.owner) ≡ true) (take l.at l.live.entries)

-- The moment itself, where it is still to come.
use Rattle.std.proofs.Common.{◌≡◌, pos, w64, to_z, arith}
use Rattle.std.proofs.lemmas.Int.{ints, to_z-of_z, to_z_pos}
use Rattle.kq_timer.proofs.Single.{single-next, single-none}
use Rattle.kq_timer.proofs.moment.Moment.first_after.Goals as goal

pub returns-then-from-moment-clause-next : goal.returns-then-from-moment-clause-next
returns-then-from-moment-clause-next c =
    let n = c.self.inside.nanoseconds in
    let fits : to_z w64 n ≡ pos n = to_z_pos w64 n (omega (arith, ints, c.self.invariant)) in
    rw fits (rw (← c.self.view_is) (single-next n c.args.from (grind (arith, ints, to_z-of_z, fits))))

pub returns-else-from-moment-clause-next : goal.returns-else-from-moment-clause-next
returns-else-from-moment-clause-next c =
    let n = c.self.inside.nanoseconds in
    let fits : to_z w64 n ≡ pos n = to_z_pos w64 n (omega (arith, ints, c.self.invariant)) in
    rw (← c.self.view_is) (single-none n c.args.from (grind (arith, ints, to_z-of_z, fits)))

-- Once, where the moment is in the span.
use Rattle.std.proofs.Common.{◌≡◌, pos, w64, to_z, arith}
use Rattle.std.proofs.lemmas.Int.{ints, to_z-of_z, to_z_pos}
use Rattle.kq_timer.proofs.Single.{single-within, single-over, single-to_come}
use Rattle.kq_timer.proofs.moment.Moment.ticks.Goals as goal
use Rattle.kq_timer.proofs.moment.Moment.ticks.Goals.{else-from-moment-via-then-from-moment+else-moment-to, else-from-moment-via-else-from-moment}

pub returns-then-moment-to : goal.returns-then-moment-to
returns-then-moment-to c =
    let n = c.self.inside.nanoseconds in
    let fits : to_z w64 n ≡ pos n = to_z_pos w64 n (omega (arith, ints, c.self.invariant)) in
    rw (← c.self.view_is) (single-within n c.args.from c.args.to c.requires.past (grind (arith, ints, to_z-of_z, fits)) (grind (arith, ints, to_z-of_z, fits)))

pub returns-else-from-moment : goal.returns-else-from-moment
returns-else-from-moment c =
    let n = c.self.inside.nanoseconds in
    let fits : to_z w64 n ≡ pos n = to_z_pos w64 n (omega (arith, ints, c.self.invariant)) in
    elim c.else-from-moment.branch [
      | else-from-moment-via-then-from-moment+else-moment-to w ↦
          rw (← c.self.view_is) (single-to_come n c.args.from c.args.to c.requires.past c.requires.ordered (grind (arith, ints, to_z-of_z, fits, w.if-moment-to.false)))
      | else-from-moment-via-else-from-moment w ↦
          rw (← c.self.view_is) (single-over n c.args.from c.args.to c.requires.past c.requires.ordered (grind (arith, ints, to_z-of_z, fits, w.if-from-moment.false)))
    ]

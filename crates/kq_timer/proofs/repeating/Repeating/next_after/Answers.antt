-- The code's sum is the next tick by division.
use Rattle.std.proofs.Common.{FitsSigned, w64, rules}
use Rattle.std.proofs.lemmas.Int.{to_z-of_z}
use Rattle.kq_timer.proofs.NextTick.{next_found}
use Rattle.kq_timer.proofs.repeating.Repeating.next_after.Goals as goal

pub returns : goal.returns
returns c =
    let range = c.ranges.from in
    let greatest = simp to_z-of_z at c.max.ensures.value in
    let fits : FitsSigned w64 c.max.result = search rules in
    let later = simp to_z-of_z at c.max-later.ensures in
    rw (← c.self.view_is) (next_found _ c.args.from c.max.result c.max-later.result c.self.invariant.1 greatest later)

use Rattle.std.proofs.Common.{arith, sym, ◌∙◌}
use Rattle.value_count.proofs.Cuts.{values_at, values_none}
use Rattle.value_count.proofs.count.count_values.Goals as goal
use Rattle.value_count.proofs.count.count_values.Goals.{then-branch, else-branch}

pub loop-end-preserved : goal.loop-end-preserved
loop-end-preserved c =
    let back = c.split_at.ensures.back in
    let cut = values_at c.loop-end.rest.now c.in-Some.end c.in-Some.ensures in
    let split = rw (sym back) at cut in
    let total = c.loop-end.invariant.total in
    let within = c.loop-end.invariant.within in
    let len = c.split_at.ensures.back_len in
    let found = c.in-Some.ensures.0.high in
    elim c.if-branch.branch [
      | then-branch w ↦
          let one = rw (sym c.in_ok-reads.ensures ∙ w.if-branch.true) at split in
          let is = w.values-is in
          record { total = omega arith; within = omega arith }
      | else-branch w ↦
          let none = rw (sym c.in_ok-reads.ensures ∙ w.if-branch.false) at split in
          let is = w.values-is in
          record { total = omega arith; within = omega arith }
    ]

pub returns-then-branch-2 : goal.returns-then-branch-2
returns-then-branch-2 c =
    let last = values_none c.loop-end.rest.now c.in_default.ensures in
    let found = rw (sym c.in_ok-reads-2.ensures ∙ c.if-branch-2.true) at last in
    let total = c.loop-end.invariant.total in
    omega arith

pub returns-else-branch-2 : goal.returns-else-branch-2
returns-else-branch-2 c =
    let last = values_none c.loop-end.rest.now c.in_default.ensures in
    let found = rw (sym c.in_ok-reads-2.ensures ∙ c.if-branch-2.false) at last in
    let total = c.loop-end.invariant.total in
    omega arith

-- A change at a time.
use Rattle.std.proofs.Common.{arith}
use Rattle.kq_line.proofs.Lists.{changes_begin, changes_end, changes_more, changes_next, no_changes}
use Rattle.kq_line.proofs.changes.change_list.Goals as goal

pub returns-in-Some-clause-value : goal.returns-in-Some-clause-value
returns-in-Some-clause-value c = no_changes c.args.text.now c.in-Some.tail.now c.clear.new.self.items c.clear.ensures.items c.in-Some.ensures.cut

pub changes-init : goal.changes-init
changes-init c = record { so_far = changes_begin c.args.text.now c.clear.new.self.items c.clear.ensures.items; shorter = omega arith }

pub returns-in-Some-behind-clause-value : goal.returns-in-Some-behind-clause-value
returns-in-Some-behind-clause-value c =
    changes_end c.args.text.now c.in_ok-change.behind_change.now c.in-Some-behind.tail.now c.push.new.self.items
    (changes_more c.args.text.now c.changes.rest.now c.in_ok-change.behind_change.now c.changes.changes.items c.push.new.self.items c.in_ok-change.change
    c.changes.invariant.so_far c.in_ok-change.ensures.value c.in-Ok.ensures.items)
    c.in-Some-behind.ensures.cut

pub changes-preserved : goal.changes-preserved
changes-preserved c =
    let gap = c.without_blank-rest.ensures.cut in
    record {
      so_far = changes_next c.args.text.now c.in_ok-change.behind_change.now c.without_blank-rest.result.now gap.0 c.in_ok-behind.field-0.now c.push.new.self.items
          (changes_more c.args.text.now c.changes.rest.now c.in_ok-change.behind_change.now c.changes.changes.items c.push.new.self.items c.in_ok-change.change
          c.changes.invariant.so_far c.in_ok-change.ensures.value c.in-Ok.ensures.items)
          gap.1 c.in_ok-behind.ensures.cut gap.2;
      shorter = omega (arith, c.changes.invariant.shorter, c.in_ok-change.ensures.shorter, c.in_ok-behind.ensures.shorter, c.without_blank-rest.ensures.shorter);
    }

-- A value at a time.
use Rattle.std.proofs.Common.{rules}
use Rattle.kq_trace.proofs.Walk.{stops, goes_on}
use Rattle.kq_trace.proofs.changes.changes_of.Goals as goal

pub returns-in-None : goal.returns-in-None
returns-in-None c =
    stops c.args.values.now c.loop-value.value-index c.value-item.result c.loop-value.changes.items _
    c.loop-value-test.true c.value-item.is c.in-None.ensures c.loop-value.invariant

pub loop-value-preserved : goal.loop-value-preserved
loop-value-preserved c =
    goes_on c.args.values.now c.loop-value.value-index c.value-item.result c.in-Some.change c.loop-value.changes.items
    c.push.new.self.items _ c.loop-value-test.true c.value-item.is c.in-Some.ensures (search rules) c.loop-value.invariant

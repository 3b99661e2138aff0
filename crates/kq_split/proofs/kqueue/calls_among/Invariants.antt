-- What is counted, and the calls among the items that are left.
use Rattle.std.proofs.Common.{◌≡◌, ◌≤◌, ◌+◌, drop}
use Rattle.kq_split.specs.Lines.{call_count}
use Rattle.kq_split.proofs.kqueue.calls_among.Given as goal

abbrev pub invariant-loop-item : goal.invariant-loop-item
invariant-loop-item l = record {
  left : l.calls + call_count (drop l.item-index l.items) ≡ call_count l.items;
  few : l.calls ≤ l.item-index;
}

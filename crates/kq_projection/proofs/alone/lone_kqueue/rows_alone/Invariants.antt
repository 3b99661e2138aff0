use Rattle.std.proofs.Common.{◌≡◌, drop}
use Rattle.kq_projection.specs.LoneKqueue.{after_items, unborn}
use Rattle.kq_projection.proofs.alone.lone_kqueue.rows_alone.Given as goal

-- what is left makes of it now what all make of one that is not born
abbrev pub invariant-loop-item : goal.invariant-loop-item
invariant-loop-item l = record {
  left : after_items (drop l.item-index l.items) l.alone ≡ after_items l.items (unborn l.split l.owner);
  trace : l.alone.trace ≡ l.split;
}

-- The flags of the values that are left, added to those so far, are those of all.
use Rattle.std.proofs.Common.{◌≡◌, drop}
use Rattle.serde_json.specs.View.{items_view}
use Rattle.kq_model.specs.ChangeText.{flags_among}
use Rattle.kq_trace.proofs.change.flags_among.Given as goal

abbrev pub invariant-loop-value : goal.invariant-loop-value
invariant-loop-value l = flags_among 0 (items_view l.values) ≡ flags_among l.flags.0 (items_view (drop l.value-index l.values))

-- The values that are left decide.
use Rattle.std.proofs.Common.{◌≡◌, drop}
use Rattle.serde_json.specs.View.{items_view}
use Rattle.kq_model.specs.ChangeText.{are_changes}
use Rattle.kq_trace.proofs.changes.are_changes.Given as goal

abbrev pub invariant-loop-value : goal.invariant-loop-value
invariant-loop-value l = are_changes (items_view l.values) ≡ are_changes (items_view (drop l.value-index l.values))

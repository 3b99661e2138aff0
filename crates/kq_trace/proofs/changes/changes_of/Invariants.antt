-- The changes so far stand before those of the values that are left.
use Rattle.std.proofs.Common.{◌≡◌, drop}
use Rattle.serde_json.specs.View.{items_view}
use Rattle.kq_model.specs.ChangeText.{changes_of}
use Rattle.kq_trace.proofs.changes.changes_of.Given as goal
use Rattle.kq_trace.proofs.Walk.{behind_changes}

abbrev pub invariant-loop-value : goal.invariant-loop-value
invariant-loop-value l =
    changes_of (items_view l.values) ≡ behind_changes l.changes.items (changes_of (items_view (drop l.value-index l.values)))

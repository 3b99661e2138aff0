-- The tests, in two groups.
use Rattle.std.proofs.Common.{sym, ◌∙◌}
use Rattle.serde_json.specs.View.{view}
use Rattle.kq_trace.proofs.ChangeParts.{all_parts, no_parts}
use Rattle.kq_trace.proofs.change.is_change.Goals as goal

pub returns-then-has_required : goal.returns-then-has_required
returns-then-has_required c =
    all_parts (view c.args.value.now) _ (sym c.has_required.ensures ∙ c.if-has_required.true) c.ends_there.ensures

pub returns-else-has_required : goal.returns-else-has_required
returns-else-has_required c =
    c.if-has_required.false ∙ no_parts (view c.args.value.now) (sym c.has_required.ensures ∙ c.if-has_required.false)

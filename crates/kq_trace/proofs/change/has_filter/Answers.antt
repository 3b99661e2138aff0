use Rattle.std.proofs.Common.{ap, ◌∙◌}
use Rattle.std.specs.Option.{is_some}
use Rattle.kq_trace.proofs.ChangeParts.{filter_there}
use Rattle.kq_trace.proofs.change.has_filter.Goals as goal

pub returns : goal.returns
returns c = c.is_some.ensures ∙ ap is_some c.filter_at.ensures ∙ filter_there _

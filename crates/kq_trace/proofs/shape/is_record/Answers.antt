-- Each member is there, and with `op` there are as many as names.
use Rattle.std.proofs.Common.{sym, ◌∙◌}
use Rattle.kq_trace.proofs.Found.{other_record, whole_record}
use Rattle.kq_trace.proofs.shape.is_record.Goals as goal

pub returns-then-has_each : goal.returns-then-has_each
returns-then-has_each c = whole_record c.args.members.now _ _ (sym c.if-has_each.true ∙ c.has_each.ensures) c.width.ensures

pub returns-else-has_each : goal.returns-else-has_each
returns-else-has_each c = c.if-has_each.false ∙ other_record c.args.members.now _ (sym c.if-has_each.false ∙ c.has_each.ensures)

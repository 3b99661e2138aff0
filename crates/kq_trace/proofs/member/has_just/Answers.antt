-- Each name is there, and there are as many members as names.
use Rattle.std.proofs.Common.{sym, ◌∙◌}
use Rattle.kq_trace.proofs.Found.{just, not_just}
use Rattle.kq_trace.proofs.member.has_just.Goals as goal

pub returns-then-has_all : goal.returns-then-has_all
returns-then-has_all c = just c.args.names.now _ _ (sym c.if-has_all.true ∙ c.has_all.ensures) c.width.ensures

pub returns-else-has_all : goal.returns-else-has_all
returns-else-has_all c = c.if-has_all.false ∙ not_just c.args.names.now _ (sym c.if-has_all.false ∙ c.has_all.ensures)

use Rattle.std.proofs.Common.{Some, sym, ap, ◌∙◌}
use Rattle.kq_line.proofs.LookUps.{changes_found}
use Rattle.kq_line.proofs.found.Found.changes_at.Goals as goal

pub returns-in-Ok : goal.returns-in-Ok
returns-in-Ok c = changes_found c.args.self.now c.args.name.now c.in-Ok.changes.items (ap Some (sym c.in-Changes.is) ∙ c.in_ok-piece.ensures) (c.in-Ok.ensures.items ∙ c.as_slice.ensures.value)

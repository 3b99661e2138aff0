use Rattle.std.proofs.Common.{Some, sym, ap, ◌∙◌}
use Rattle.kq_line.proofs.LookUps.{text_found}
use Rattle.kq_line.proofs.found.Found.text_at.Goals as goal

pub returns-in-Name : goal.returns-in-Name
returns-in-Name c = text_found c.args.self.now c.args.name.now c.in-Name.text (ap Some (sym c.in-Name.is) ∙ c.in_ok-text.ensures)

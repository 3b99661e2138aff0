use Rattle.std.proofs.Common.{Some, sym, ap, ◌∙◌}
use Rattle.kq_line.proofs.LookUps.{u64_found}
use Rattle.kq_line.proofs.found.Found.u64_at.Goals as goal

pub returns-in-Number : goal.returns-in-Number
returns-in-Number c = u64_found c.args.self.now c.args.name.now c.in-Number.number (ap Some (sym c.in-Number.is) ∙ c.in_ok-number.ensures)

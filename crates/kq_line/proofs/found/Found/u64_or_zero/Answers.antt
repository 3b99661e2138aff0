use Rattle.std.proofs.Common.{Some, sym, ap, ◌∙◌}
use Rattle.kq_line.proofs.LookUps.{u64_or_found, u64_or_missing}
use Rattle.kq_line.proofs.found.Found.u64_or_zero.Goals as goal

pub returns-in-Some-Number : goal.returns-in-Some-Number
returns-in-Some-Number c =
    u64_or_found c.args.self.now c.args.name.now c.in-Some-Number.number (ap Some (sym c.in-Some-Number.field-0-is) ∙ c.in-Some-Number.ensures)

pub returns-in-None : goal.returns-in-None
returns-in-None c = u64_or_missing c.args.self.now c.args.name.now c.in-None.ensures

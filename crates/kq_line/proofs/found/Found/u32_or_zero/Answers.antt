use Rattle.std.proofs.Common.{Some, sym, ap, ◌∙◌}
use Rattle.kq_line.proofs.LookUps.{u32_or_missing, u32_or_tried}
use Rattle.kq_line.proofs.found.Found.u32_or_zero.Goals as goal

pub returns-in-Some-Number : goal.returns-in-Some-Number
returns-in-Some-Number c =
    u32_or_tried c.args.self.now c.args.name.now c.in-Some-Number.number c.try_from.result c.ok.result c.try_from.ensures c.ok.ensures.value
    (ap Some (sym c.in-Some-Number.field-0-is) ∙ c.in-Some-Number.ensures)

pub returns-in-None : goal.returns-in-None
returns-in-None c = u32_or_missing c.args.self.now c.args.name.now c.in-None.ensures

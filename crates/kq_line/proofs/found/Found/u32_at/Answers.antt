use Rattle.std.proofs.Common.{Some, sym, ap, ◌∙◌}
use Rattle.kq_line.proofs.LookUps.{u32_tried}
use Rattle.kq_line.proofs.found.Found.u32_at.Goals as goal

pub returns-in-Number : goal.returns-in-Number
returns-in-Number c =
    u32_tried c.args.self.now c.args.name.now c.in-Number.number c.try_from.result c.ok.result c.try_from.ensures c.ok.ensures.value
    (ap Some (sym c.in-Number.is) ∙ c.in_ok-number.ensures)

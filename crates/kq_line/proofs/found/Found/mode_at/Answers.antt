use Rattle.kq_line.proofs.LookUps.{mode_tried}
use Rattle.kq_line.proofs.found.Found.mode_at.Goals as goal

pub returns : goal.returns
returns c = mode_tried c.args.self.now c.args.name.now c.in_ok-text_at.field-0.now c.mode_named.result c.in_ok-text_at.ensures c.mode_named.ensures

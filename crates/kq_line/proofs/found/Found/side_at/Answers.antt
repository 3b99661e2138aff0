use Rattle.kq_line.proofs.LookUps.{side_tried}
use Rattle.kq_line.proofs.found.Found.side_at.Goals as goal

pub returns : goal.returns
returns c = side_tried c.args.self.now c.args.name.now c.in_ok-text_at.field-0.now c.side_named.result c.in_ok-text_at.ensures c.side_named.ensures
